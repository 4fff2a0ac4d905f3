use Rattle.std.proofs.Common.{◌≡◌, true, false}
use Rattle.fk_model.specs.State.{with_workers}
use Rattle.fk_model.specs.Bringing.{brought_up}
use Rattle.fk_plan.specs.Taking.{is_idle}
use Rattle.fk_plan.proofs.Mutated.{idle_done, mutate_done}
use Rattle.fk_plan.proofs.mutating.mutate.Goals as goal

pub returns-then-is_idle-clause-ok : goal.returns-then-is_idle-clause-ok
returns-then-is_idle-clause-ok c = λ word workers is_up has.
    let idle : is_idle c.args.mutation.now.cmd c.args.mutation.now.target ≡ true = cc in
    rw c.ok.ensures
    (idle_done c.args.tables.now.kept (with_workers (brought_up c.args.tables.now.kept c.args.moment word) workers)
    c.args.mutation.now.cmd c.args.mutation.now.target c.args.mutation.now.filter c.args.moment word
    c.args.moves.now.items c.args.numbers.now idle has)

pub returns-clause-ok : goal.returns-clause-ok
returns-clause-ok c = λ word workers is_up has.
    let works : is_idle c.args.mutation.now.cmd c.args.mutation.now.target ≡ false = cc in
    rw c.ok-2.ensures
    (mutate_done c.args.tables.now.kept workers c.args.mutation.now.cmd c.args.mutation.now.target
    c.args.mutation.now.filter c.args.moment word c.args.moves.now.items c.in_ok-made.made.items
    c.append.new.self.items c.args.numbers.now c.mutations.new.numbers c.requires.kept c.requires.moment works is_up
    has c.in_ok-made.ensures.made c.in_ok-made.ensures.next c.in_ok-append.ensures.ok)
