use Rattle.std.proofs.Common.{sym, ◌∙◌}
use Rattle.std.proofs.lemmas.Bool.{false≢true}
use Rattle.fk_store.proofs.CarriedOut.{no_memory, no_moves, too_many}
use Rattle.fk_store.proofs.carrying.carry_out.Goals as goal

pub returns-then-is_empty-clause-carried : goal.returns-then-is_empty-clause-carried
returns-then-is_empty-clause-carried g c =
    no_moves g.D.Disk.told g.D.Disk.fault_count g.D.Disk.moment g.D.Disk.images c.args.reply _ c.args.shelf.now
    c.args.tables.now.kept _ (c.is_empty.ensures.0 c.if-is_empty.true) c.requires.told c.requires.sound

pub returns-then-is_over-clause-carried : goal.returns-then-is_over-clause-carried
returns-then-is_over-clause-carried g c =
    too_many g.D.Disk.told g.D.Disk.fault_count g.D.Disk.moment g.D.Disk.images c.args.reply _ c.args.shelf.now
    c.args.tables.now.kept _ (c.is_over.ensures.0 c.if-is_over.true) c.requires.told c.requires.sound

pub returns-in-Err-clause-carried : goal.returns-in-Err-clause-carried
returns-in-Err-clause-carried g c =
    no_memory g.D.Disk.told g.D.Disk.fault_count g.D.Disk.moment g.D.Disk.images c.args.reply _ c.args.shelf.now
    c.args.tables.now.kept c.prepare.new.tables.kept _ c.prepare.ensures.kept (
      (λ none. false≢true (sym c.if-is_empty.false ∙ c.is_empty.ensures.1 none)),
      (λ one. false≢true (c.in-Err.ensures.ready one)),
    ) c.requires.told c.requires.sound
