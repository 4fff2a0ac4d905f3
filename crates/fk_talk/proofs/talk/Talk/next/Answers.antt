use Rattle.std.proofs.Common.{◌≡◌, false, rules}
use Rattle.fk_talk.proofs.MoreGiven.{breaks_off, gives, starves}
use Rattle.fk_talk.proofs.talk.Talk.next.Goals as goal

pub returns-in-Ok-clause-whole : goal.returns-in-Ok-clause-whole
returns-in-Ok-clause-whole c =
    let going : c.args.self.now.starved ≡ false = search rules in
    gives c.in-Ok.turn _ _ c.requires going c.in-Ok.ensures.ok

pub returns-in-Err-clause-whole : goal.returns-in-Err-clause-whole
returns-in-Err-clause-whole c =
    let going : c.args.self.now.starved ≡ false = search rules in
    breaks_off _ _ c.requires going (starves _ _ (rw (← c.self-2.view_is) at c.in-Err.ensures.err))
