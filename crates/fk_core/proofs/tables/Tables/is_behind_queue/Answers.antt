use Rattle.std.proofs.Common.{ap, refl}
use Rattle.fk_core.specs.Held.{Held}
use Rattle.fk_core.proofs.BelowNumber.{behind_last, behind_none}
use Rattle.fk_core.proofs.tables.Tables.is_behind_queue.Goals as goal

pub returns-in-Some : goal.returns-in-Some
returns-in-Some c =
    behind_last c.args.self.now.kept c.self.inside.rows.items c.self.inside.index c.self.inside.next
    c.args.queue.now c.in-Some.last c.args.rank c.self.invariant
    (ap (λ (held : Held). held.kept.rows) c.self.view_is) c.in-Some.ensures

pub returns-in-None : goal.returns-in-None
returns-in-None c = (
  λ yes. behind_none c.args.self.now.kept c.self.inside.rows.items c.self.inside.index
      c.self.inside.next c.args.queue.now c.args.rank c.self.invariant
      (ap (λ (held : Held). held.kept.rows) c.self.view_is) c.in-None.ensures,
  λ behind. refl,
)
