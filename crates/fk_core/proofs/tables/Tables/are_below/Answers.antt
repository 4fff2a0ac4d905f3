use Rattle.std.proofs.Common.{ap, refl, arith}
use Rattle.fk_core.specs.Held.{Held}
use Rattle.fk_core.proofs.BelowNumber.{more_below, all_below, not_below}
use Rattle.fk_core.proofs.tables.Tables.are_below.Goals as goal

pub returns-then-not-is_below_at : goal.returns-then-not-is_below_at
returns-then-not-is_below_at c =
    not_below c.args.next c.self.inside.rows.items c.args.self.now.kept.rows c.looking.place
    (ap (λ (held : Held). held.kept.rows) c.self.view_is) (c.if-not-is_below_at.ensures.1)

pub looking-preserved : goal.looking-preserved
looking-preserved c =
    more_below c.args.next c.self.inside.rows.items c.looking.place c.looking.invariant
    (c.if-not-is_below_at.ensures.0 refl)

pub returns : goal.returns
returns c =
    all_below c.args.next c.self.inside.rows.items c.args.self.now.kept.rows c.looking.place
    (ap (λ (held : Held). held.kept.rows) c.self.view_is) (omega arith) c.looking.invariant
