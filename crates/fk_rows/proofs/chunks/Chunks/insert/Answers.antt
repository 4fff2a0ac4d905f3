use Rattle.std.proofs.Common.{arith, ap, ◌≡◌, ◌≤◌, ◌+◌, ◌∙◌, ◌++◌, ◌∷◌, suc, length}
use Rattle.std.specs.List.{insert}
use Rattle.std.specs.VecDeque.{deque_capacity}
use Rattle.fk_rows.specs.Chunks.{chunk_at, excess, rows_of}
use Rattle.fk_rows.specs.Spots.{before, from}
use Rattle.fk_rows.proofs.Chunking.{length_insert}
use Rattle.fk_rows.proofs.Soundness.{sound_set}
use Rattle.fk_rows.proofs.Spotted.{entered}
use Rattle.fk_rows.proofs.chunks.Chunks.insert.Goals as goal

pub invariant_of-self : goal.invariant_of-self
invariant_of-self c =
    let chunks = c.self.inside.chunks.items in
    let opened = c.opened-opened.result in
    let within = rw (← c.self.view_is) at c.opened-opened.ensures.chunk in
    let one : length (insert (chunk_at c.self.inside.chunks.items c.opened-opened.result.chunk) c.opened-opened.result.at (c.args.ticket, c.args.row)) ≡ suc (length (chunk_at c.self.inside.chunks.items c.opened-opened.result.chunk)) =
    length_insert (chunk_at chunks opened.chunk) opened.at (c.args.ticket, c.args.row) in
    let paid : c.room_less-self-inside.result + excess (insert (chunk_at c.self.inside.chunks.items c.opened-opened.result.chunk) c.opened-opened.result.at (c.args.ticket, c.args.row)) ≤ c.self.inside.room + excess (chunk_at c.self.inside.chunks.items c.opened-opened.result.chunk) =
    omega (arith, one, c.len_at.ensures.count, c.room_less-self-inside.ensures.paid) in
    rw (c.enter.ensures.items, c.enter.ensures.capacity)
    (sound_set chunks c.self.inside.store.items c.self.inside.room c.room_less-self-inside.result (deque_capacity c.self.inside.chunks) (deque_capacity c.self.inside.chunks) opened.chunk _
    c.self.invariant within (omega (arith, one)) paid (omega arith))

pub returns-clause-items : goal.returns-clause-items
returns-clause-items c =
    let chunks = c.self.inside.chunks.items in
    let opened = c.opened-opened.result in
    let within = rw (← c.self.view_is) at c.opened-opened.ensures.chunk in
    let lower = rw (← c.self.view_is) at c.opened-opened.ensures.before in
    let upper = rw (← c.self.view_is) at c.opened-opened.ensures.from in
    ap rows_of c.enter.ensures.items ∙ entered chunks opened (c.args.ticket, c.args.row) within
    ∙ ap (λ rows. rows ++ (c.args.ticket, c.args.row) ∷ from chunks opened) lower
    ∙ ap (λ rows. before c.args.self.now.chunks c.args.spot ++ (c.args.ticket, c.args.row) ∷ rows) upper
