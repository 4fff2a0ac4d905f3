use Rattle.std.proofs.Common.{◌∙◌}
use Rattle.fk_shelf.proofs.Opened.{made_anew}
use Rattle.fk_shelf.proofs.opening.make_if_blank.Goals as goal

pub returns-in_err-make_first-clause-since : goal.returns-in_err-make_first-clause-since
returns-in_err-make_first-clause-since g c =
    made_anew _ _ _ _ _ _ _ _ _ (c.make_first.ensures.told ∙ c.is_blank.ensures.reads.tells)
    (g.met.D.Disk.has_told c.make_first.new.disk) (λ tells. c.in_ok-is_blank.ensures.yes tells c.if-branch.true)
    c.requires.sure c.is_blank.ensures.reads.since c.make_first.ensures.since

pub returns-in_ok-make_first-clause-since : goal.returns-in_ok-make_first-clause-since
returns-in_ok-make_first-clause-since g c =
    made_anew _ _ _ _ _ _ _ _ _ (c.make_first.ensures.told ∙ c.is_blank.ensures.reads.tells)
    (g.met.D.Disk.has_told c.make_first.new.disk) (λ tells. c.in_ok-is_blank.ensures.yes tells c.if-branch.true)
    c.requires.sure c.is_blank.ensures.reads.since c.make_first.ensures.since
