use Rattle.std.proofs.Common.{ap, length, subst, sym, arith}
use Rattle.std.proofs.lemmas.List.Elements.{All-from_recursion}
use Rattle.fk_json.specs.Members.{IsMemberIn, inner_levels}
use Rattle.fk_job.proofs.Joined.{as_many, none_written, one_flagged}
use Rattle.fk_job.proofs.body.body_of_many.Goals as goal

pub members-init : goal.members-init
members-init c = none_written c.args.text.now c.args.members.now _ c.in_ok-body.ensures

pub index-requires : goal.index-requires
index-requires c = omega (arith, ap length c.in_ok-flags.ensures, as_many c.args.members.now, c.in_ok-flags.flags.ok)

pub push_counting-requires : goal.push_counting-requires
push_counting-requires c =
    subst (IsMemberIn inner_levels c.args.text.now) (sym c.index-members-at.is)
    (All-from_recursion (IsMemberIn inner_levels c.args.text.now) c.args.members.now c.requires c.members.at
    c.index-members-at.result (omega arith))

pub members-preserved : goal.members-preserved
members-preserved c =
    one_flagged c.args.text.now c.args.members.now c.members.at c.index-members-at.result c.index.result.now c.index.result.now
    c.in_ok-flags.flags.items c.members.body c.push_counting.new.body (omega arith) c.index-members-at.is
    c.in_ok-flags.ensures c.index.ensures c.in_ok-push_counting.ensures c.members.invariant
