use Rattle.std.proofs.Common.{◌≢◌, rules, subst, sym}
use Rattle.fk_frame.specs.Reading.{HasLongLine, IsFirstLine}
use Rattle.fk_talk.specs.declared.standing.Standing.TheVariants.{Over}
use Rattle.fk_talk.specs.Steps.{Goes}
use Rattle.fk_talk.proofs.Going.{ended_long, gives_ask, goes_on}
use Rattle.fk_talk.proofs.talk.Talk.read.Goals as goal

pub returns-in-TooLong-clause-ok : goal.returns-in-TooLong-clause-ok
returns-in-TooLong-clause-ok c =
    let so_far = subst (λ now. Goes c.args.self.now now) (sym c.self.view_is) c.lines.invariant in
    let going : c.self.inside.standing ≢ Over = search rules in
    let long : HasLongLine c.self.inside.lines c.next.new.self = rw c.in-TooLong.is at c.in_ok-next.ensures.ok in
    ended_long _ _ _ _ c.end_at_long_line.result so_far going long c.end_at_long_line.ensures.ok

pub returns-in-Some-clause-ok : goal.returns-in-Some-clause-ok
returns-in-Some-clause-ok c =
    let so_far = subst (λ now. Goes c.args.self.now now) (sym c.self.view_is) c.lines.invariant in
    let going : c.self.inside.standing ≢ Over = search rules in
    let first : IsFirstLine c.self.inside.lines c.in-Whole.line c.next.new.self =
    rw c.in-Whole.is at c.in_ok-next.ensures.ok in
    gives_ask _ _ _ c.in-Some.ask _ _ so_far going first
    (rw (c.bytes.ensures, c.in-Some.is) at c.in_ok-ask-in-Whole.ensures.ok)

pub lines-preserved : goal.lines-preserved
lines-preserved c =
    let so_far = subst (λ now. Goes c.args.self.now now) (sym c.self.view_is) c.lines.invariant in
    let going : c.self.inside.standing ≢ Over = search rules in
    let first : IsFirstLine c.self.inside.lines c.in-Whole.line c.next.new.self =
    rw c.in-Whole.is at c.in_ok-next.ensures.ok in
    goes_on _ _ _ _ _ so_far going first
    (rw (c.bytes.ensures, c.in_default.is) at c.in_ok-ask-in-Whole.ensures.ok)
