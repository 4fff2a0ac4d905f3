use Rattle.std.proofs.Common.{◌+◌, subst, sym, arith}
use Rattle.std.proofs.lemmas.List.{take_rest}
use Rattle.std.proofs.lemmas.List.Elements.{All-from_recursion}
use Rattle.fk_json.specs.Members.{IsMemberIn, inner_levels}
use Rattle.fk_job.proofs.Joined.{none_written, one_written}
use Rattle.fk_job.proofs.body.body_of_few.Goals as goal

pub members-init : goal.members-init
members-init c = none_written c.args.text.now c.args.members.now _ c.in_ok-body.ensures

pub push_counting-requires : goal.push_counting-requires
push_counting-requires c =
    subst (IsMemberIn inner_levels c.args.text.now) (sym c.index-members-at.is)
    (All-from_recursion (IsMemberIn inner_levels c.args.text.now) c.args.members.now c.requires c.members.at
    c.index-members-at.result (omega arith))

pub members-preserved : goal.members-preserved
members-preserved c =
    one_written c.args.text.now c.args.members.now c.members.at c.index-members-at.result c.counts.result
    c.members.body c.push_counting.new.body (omega arith) c.index-members-at.is
    (rw (take_rest c.args.members.now (c.members.at + 1)) at c.counts.ensures) c.in_ok-push_counting.ensures c.members.invariant
