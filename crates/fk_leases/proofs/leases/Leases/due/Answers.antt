use Rattle.std.proofs.Common.{◌≡◌, ◌++◌, ◌∙◌, ℕ, List, OnOk, subst}
use Rattle.fk_leases.proofs.FirstAndDue.{due_from}
use Rattle.fk_leases.proofs.leases.Leases.due.Goals as goal

pub returns-clause-ok : goal.returns-clause-ok
returns-clause-ok c =
    let found = due_from c.args.moment c.self.inside.ends.items c.self.inside.lists.items _ _ _
    c.self.invariant.same c.new-ended.ensures c.in_ok-until.ensures.ok c.in_ok-leases_of.ensures in
    rw (← c.self.view_is)
    (subst (λ (pairs : List (ℕ × ℕ)). OnOk c.extend.result (c.extend.new.self.items ≡ c.args.out.now.items ++ pairs))
    (c.deref.ensures.value ∙ found) c.extend.ensures.ok)
