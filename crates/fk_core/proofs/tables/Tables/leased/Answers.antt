use Rattle.std.proofs.Common.{◌∙◌, ap, List, ℕ}
use Rattle.std.specs.Prelude.{option_map, slice_get}
use Rattle.fk_lists.specs.Room.{list_at}
use Rattle.fk_leases.specs.Leases.{leased_ticket}
use Rattle.fk_core.specs.declared.tables.Tables.TheInside.{Inside}
use Rattle.fk_core.proofs.Leased.{finds_the_least}
use Rattle.fk_core.proofs.tables.Tables.leased.Goals as goal

-- the first lease of the jid
pub returns : goal.returns
returns c =
    let first = λ (pairs : List (ℕ × ℕ)). option_map leased_ticket (slice_get pairs 0) in
    rw (← c.self.view_is)
    (c.find.ensures.ticket
    ∙ ap (λ (inside : Inside). first (list_at inside.index.leases.items c.args.jid.now)) c.self-inside.view_is
    ∙ ap first (c.self.invariant.leases c.args.jid.now) ∙ finds_the_least c.self.inside.rows.items c.args.jid.now)
