use Rattle.fk_plan.proofs.NamesUp.{come_utf8, held_utf8, sizes_up}
use Rattle.fk_plan.proofs.sizing.queue_sizes.Goals as goal

pub put_sizes-requires-clause-spelled : goal.put_sizes-requires-clause-spelled
put_sizes-requires-clause-spelled c =
    rw c.as_slice.ensures
    (held_utf8 c.args.tables.now.kept c.in_ok-waiting.waiting c.requires.kept c.in_ok-waiting.ensures)

pub put_sizes-requires-2-clause-spelled : goal.put_sizes-requires-2-clause-spelled
put_sizes-requires-2-clause-spelled c =
    rw (c.as_slice-2.ensures, c.in_ok-coming.ensures.sizes)
    (come_utf8 c.args.tables.now.kept c.args.moment c.in_ok-arrived.arrived.items c.requires.kept
    c.in_ok-arrived.ensures c.in_ok-coming.ensures.named)

pub returns : goal.returns
returns c = λ word.
    rw (c.in_ok-put_sizes-2.ensures word, c.as_slice-2.ensures, c.in_ok-coming.ensures.sizes, c.in_ok-put_sizes.ensures word, c.as_slice.ensures, c.new-members.ensures.empty)
    (sizes_up c.args.tables.now.kept c.args.moment word c.in_ok-waiting.waiting c.in_ok-arrived.arrived.items
    c.requires.kept c.in_ok-waiting.ensures c.in_ok-arrived.ensures c.in_ok-coming.ensures.named)
