use Rattle.std.proofs.Common.{◌∙◌, ap, List, ℕ}
use Rattle.std.specs.Prelude.{option_map, find, nat_lt}
use Rattle.fk_lists.specs.Room.{list_at}
use Rattle.fk_leases.specs.Leases.{leased_ticket, until_in}
use Rattle.fk_core.specs.declared.tables.Tables.TheInside.{Inside}
use Rattle.fk_core.proofs.Leased.{finds_beyond}
use Rattle.fk_core.proofs.tables.Tables.leased_beyond.Goals as goal

-- the first lease of the jid that runs beyond the moment
pub returns : goal.returns
returns c =
    let first = λ (pairs : List (ℕ × ℕ)). option_map leased_ticket
    (find (λ lease. nat_lt c.args.moment (until_in lease)) pairs) in
    rw (← c.self.view_is)
    (c.find_beyond.ensures.ticket
    ∙ ap (λ (inside : Inside). first (list_at inside.index.leases.items c.args.jid.now)) c.self-inside.view_is
    ∙ ap first (c.self.invariant.leases c.args.jid.now)
    ∙ finds_beyond c.self.inside.rows.items c.args.jid.now c.args.moment)
