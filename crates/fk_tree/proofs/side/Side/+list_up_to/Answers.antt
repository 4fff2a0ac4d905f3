use Rattle.fk_tree.proofs.Tops.{top_is}
use Rattle.fk_tree.proofs.Due.{none_right}
use Rattle.fk_tree.proofs.side.Side.+list_up_to.Goals as goal

pub returns-then-moment-deref-clause-ok : goal.returns-then-moment-deref-clause-ok
returns-then-moment-deref-clause-ok t c =
    let over = top_is _ _ c.in-Some.node c.self.view_is c.self.invariant c.in-Some.is in
    let all = none_right _ _ _ _ c.args.moment over (rw c.deref-2.ensures at c.if-moment-deref.true) in
    rw all (rw c.deref.ensures at c.in_ok-list_up_to.ensures.ok)
