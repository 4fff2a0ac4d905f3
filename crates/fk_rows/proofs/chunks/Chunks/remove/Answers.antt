use Rattle.std.proofs.Common.{arith, ap, ◌≡◌, ◌≤◌, ◌+◌, ◌∙◌, suc, length}
use Rattle.std.specs.List.{remove}
use Rattle.std.specs.VecDeque.{deque_capacity}
use Rattle.fk_rows.specs.Chunks.{chunk_at, excess, rows_of}
use Rattle.fk_rows.proofs.Chunking.{at_set, length_remove}
use Rattle.fk_rows.proofs.Soundness.{sound_left, rows_left}
use Rattle.fk_rows.proofs.Spotted.{left}
use Rattle.fk_rows.proofs.chunks.Chunks.remove.Goals as goal

pub invariant_of-self : goal.invariant_of-self
invariant_of-self c =
    let chunks = c.self.inside.chunks.items in
    let chunk = chunk_at c.self.inside.chunks.items c.args.spot.chunk in
    let within = rw (← c.self.view_is) at c.requires.chunk in
    let inside = rw (← c.self.view_is) at c.requires.at in
    let count : c.len_at.result ≡ length (remove (chunk_at c.self.inside.chunks.items c.args.spot.chunk) c.args.spot.at) =
    c.len_at.ensures.count ∙ ap (λ chunks. length (chunk_at chunks c.args.spot.chunk)) c.leave-row.ensures.items ∙ ap length (at_set chunks c.args.spot.chunk _ within) in
    let one : suc (length (remove (chunk_at c.self.inside.chunks.items c.args.spot.chunk) c.args.spot.at)) ≡ length (chunk_at c.self.inside.chunks.items c.args.spot.chunk) = length_remove chunk c.args.spot.at inside in
    let paid : c.room_more-self-inside.result + excess (remove (chunk_at c.self.inside.chunks.items c.args.spot.chunk) c.args.spot.at) ≤ c.self.inside.room + excess (chunk_at c.self.inside.chunks.items c.args.spot.chunk) =
    omega (arith, count, one, c.room_more-self-inside.ensures.paid) in
    rw (c.close.ensures.items, c.close.ensures.capacity, c.leave-row.ensures.items, c.leave-row.ensures.capacity)
    (sound_left chunks c.self.inside.store.items c.self.inside.room c.room_more-self-inside.result (deque_capacity c.self.inside.chunks) c.args.spot.chunk _ c.self.invariant within paid)

pub returns-clause-items : goal.returns-clause-items
returns-clause-items c =
    let within = rw (← c.self.view_is) at c.requires.chunk in
    rw (← c.self.view_is)
    (ap rows_of c.close.ensures.items ∙ rows_left c.leave-row.new.chunks.items c.args.spot.chunk ∙ ap rows_of c.leave-row.ensures.items ∙ left c.self.inside.chunks.items c.args.spot within)
