use Rattle.std.proofs.Common.{subst, sym, IsTrue}
use Rattle.fk_shelf.proofs.NewFile.{on_ok}
use Rattle.fk_shelf.proofs.Opened.{blank_images, damaged_so, opened_so, stand_a, stand_b, stand_made, stand_then}
use Rattle.fk_shelf.proofs.opening.prepare.Goals as goal

pub returns-in_err-is_blank-clause-crash : goal.returns-in_err-is_blank-clause-crash
returns-in_err-is_blank-clause-crash g c =
    stand_then _ _ _ c.make_sure.ensures.crash (stand_b _ _ _ _ _ _ c.is_blank.ensures.reads.since)

pub returns-then-not-branch-clause-crash : goal.returns-then-not-branch-clause-crash
returns-then-not-branch-clause-crash g c =
    stand_then _ _ _ c.make_sure.ensures.crash (stand_b _ _ _ _ _ _ c.is_blank.ensures.reads.since)

pub returns-in_err-make_if_blank-clause-crash : goal.returns-in_err-make_if_blank-clause-crash
returns-in_err-make_if_blank-clause-crash g c =
    stand_then _ _ _ (stand_then _ _ _ c.make_sure.ensures.crash (stand_b _ _ _ _ _ _ c.is_blank.ensures.reads.since))
    (stand_made _ _ _ _ _ _ _ _ _ c.make_if_blank.ensures.told (g.met.D.Disk.has_told c.make_if_blank.new.disk)
    (g.met.D.Disk.has_content c.make_sure.new.a)
    (blank_images _ _ _ _ _ _ _ c.is_blank.ensures.reads.tells (g.met.D.Disk.has_told c.is_blank.new.disk _)
    (λ tells. c.in_ok-is_blank.ensures.yes tells c.if-not-branch.false) c.in_ok-make_sure.ensures.sure_b
    c.is_blank.ensures.reads.since) c.make_if_blank.ensures.since)

pub returns-clause-blank : goal.returns-clause-blank
returns-clause-blank g c =
    on_ok c.read_header.result _ (blank_images _ _ _ _ _ _ _ c.is_blank.ensures.reads.tells
    (g.met.D.Disk.has_told c.is_blank.new.disk _)
    (λ tells. c.in_ok-is_blank.ensures.yes tells c.if-not-branch.false) c.in_ok-make_sure.ensures.sure_b
    c.is_blank.ensures.reads.since)

pub returns-clause-crash : goal.returns-clause-crash
returns-clause-crash g c =
    stand_then _ _ _ (stand_then _ _ _ c.make_sure.ensures.crash (stand_b _ _ _ _ _ _ c.is_blank.ensures.reads.since))
    (stand_then _ _ _ (stand_made _ _ _ _ _ _ _ _ _ c.make_if_blank.ensures.told
    (g.met.D.Disk.has_told c.make_if_blank.new.disk) (g.met.D.Disk.has_content c.make_sure.new.a)
    (blank_images _ _ _ _ _ _ _ c.is_blank.ensures.reads.tells (g.met.D.Disk.has_told c.is_blank.new.disk _)
    (λ tells. c.in_ok-is_blank.ensures.yes tells c.if-not-branch.false) c.in_ok-make_sure.ensures.sure_b
    c.is_blank.ensures.reads.since) c.make_if_blank.ensures.since)
    (stand_a _ _ _ _ _ _ c.read_header.ensures.reads.since))

pub returns-clause-opened : goal.returns-clause-opened
returns-clause-opened g c = λ tells tells_b.
    opened_so c.read_header.result _ _ _ _ _ _ c.make_sure.ensures.same_b c.make_sure.ensures.same_a
    c.read_header.ensures.reads.same
    (c.in_ok-is_blank.ensures.yes (subst IsTrue (sym c.make_sure.ensures.told_b) tells_b) c.if-not-branch.false)
    (c.in_ok-make_if_blank.ensures.opened (subst IsTrue (sym c.make_sure.ensures.told_a) tells))

pub returns-clause-damaged : goal.returns-clause-damaged
returns-clause-damaged g c = λ tells tells_b damage is.
    let tells_so = subst IsTrue (sym c.make_sure.ensures.told_a) tells in
    let found = c.read_header.ensures.damaged (subst IsTrue (sym c.make_if_blank.ensures.told) tells_so) damage is in
    damaged_so _ _ _ _ _ _ _ damage c.make_sure.ensures.same_b c.is_blank.ensures.reads.same
    c.make_sure.ensures.same_a c.read_header.ensures.reads.same
    (c.in_ok-is_blank.ensures.yes (subst IsTrue (sym c.make_sure.ensures.told_b) tells_b) c.if-not-branch.false)
    (c.in_ok-make_if_blank.ensures.opened tells_so) found.0 found.1
