use Rattle.std.proofs.Common.{◌≡◌, ◌++◌, ◌∙◌, ap, subst, ℕ, List, OnOk}
use Rattle.fk_lists.specs.Room.{list_at}
use Rattle.fk_core.specs.Held.{Held}
use Rattle.fk_core.specs.declared.tables.Tables.TheInside.{Inside}
use Rattle.fk_core.proofs.AllLeases.{run_out_is}
use Rattle.fk_core.proofs.tables.Tables.expired.Goals as goal

pub returns-clause-ok : goal.returns-clause-ok
returns-clause-ok c =
    let same = λ (jid : List ℕ). ap (λ (inside : Inside). list_at inside.index.leases.items jid) c.self-inside.view_is
    ∙ c.self.invariant.leases jid in
    subst (λ (pairs : List (ℕ × ℕ)). OnOk c.due.result (c.due.new.out.items ≡ c.args.out.now.items ++ pairs))
    (run_out_is _ c.args.self.now.kept c.self.inside.rows.items c.args.moment c.due.ensures.named same
    c.self.invariant.by_ticket (ap (λ (held : Held). held.kept.rows) c.self.view_is)) c.due.ensures.ok
