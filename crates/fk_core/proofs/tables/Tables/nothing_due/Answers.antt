use Rattle.std.proofs.Common.{ap}
use Rattle.fk_core.specs.Held.{Held}
use Rattle.fk_core.proofs.NothingDue.{said_by_leases, said_by_sets}
use Rattle.fk_core.proofs.tables.Tables.nothing_due.Goals as goal

pub returns-then-is_later : goal.returns-then-is_later
returns-then-is_later c =
    said_by_leases c.args.self.now.kept _ c.self.inside c.args.moment _ c.self-inside.view_is c.self.invariant
    (ap (λ (held : Held). held.kept.rows) c.self.view_is) c.is_later.ensures _ c.leases_last.ensures.named
    c.leases_last.ensures.later c.if-is_later.true

pub returns-else-is_later : goal.returns-else-is_later
returns-else-is_later c =
    said_by_sets c.args.self.now.kept _ c.self.inside c.args.moment _ c.self-inside.view_is c.self.invariant
    (ap (λ (held : Held). held.kept.rows) c.self.view_is) c.is_later.ensures c.if-is_later.false
