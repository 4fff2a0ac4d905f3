use Rattle.std.proofs.Common.{arith, ap, ◌∙◌, length-set}
use Rattle.std.specs.VecDeque.{deque_capacity}
use Rattle.fk_model.specs.Changes.{put_row}
use Rattle.fk_model.specs.Rows.{ticket_of, row_of}
use Rattle.fk_rows.specs.Chunks.{chunk_at, rows_of}
use Rattle.fk_rows.proofs.Soundness.{sound_set, standing}
use Rattle.fk_rows.proofs.Spotted.{changed}
use Rattle.fk_rows.proofs.chunks.Chunks.change.Goals as goal

pub invariant_of-self : goal.invariant_of-self
invariant_of-self c =
    let chunks = c.self.inside.chunks.items in
    let within = rw (← c.self.view_is) at c.requires.chunk in
    let inside = rw (← c.self.view_is) at c.requires.at in
    let one = standing (chunk_at chunks c.args.spot.chunk) c.args.spot.at inside in
    let is = rw one.is at c.change.ensures.items in
    let count = length-set (chunk_at chunks c.args.spot.chunk) c.args.spot.at (ticket_of one.filed, put_row c.args.enqueued c.args.failure c.args.place (row_of one.filed)) in
    rw (is, c.change.ensures.capacity)
    (sound_set chunks c.self.inside.store.items c.self.inside.room c.self.inside.room (deque_capacity c.self.inside.chunks) (deque_capacity c.self.inside.chunks) c.args.spot.chunk _
    c.self.invariant within (omega (arith, count, inside)) (omega (arith, count)) (omega arith))

pub returns-clause-items : goal.returns-clause-items
returns-clause-items c =
    let chunks = c.self.inside.chunks.items in
    let within = rw (← c.self.view_is) at c.requires.chunk in
    let inside = rw (← c.self.view_is) at c.requires.at in
    let one = standing (chunk_at chunks c.args.spot.chunk) c.args.spot.at inside in
    let is = rw one.is at c.change.ensures.items in
    rw (← c.self.view_is, one.is)
    (ap rows_of is ∙ changed chunks c.args.spot one.filed (ticket_of one.filed, put_row c.args.enqueued c.args.failure c.args.place (row_of one.filed)) within one.is)
