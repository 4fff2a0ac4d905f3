use Rattle.std.proofs.Common.{◌∙◌, length, ap, sym, arith}
use Rattle.fk_tree.proofs.Tops.{top_is}
use Rattle.fk_tree.proofs.Due.{none_right, counted, no_longer}
use Rattle.fk_tree.proofs.side.Side.+count_up_to.Goals as goal

pub overflow_add-result : goal.overflow_add-result
overflow_add-result t c =
    let over = top_is _ _ c.in-Some.node c.self.view_is c.self.invariant c.in-Some.is in
    let before = rw c.deref.ensures at c.count_up_to-before.ensures in
    let all = counted _ _ _ _ c.args.moment over (rw c.deref-2.ensures at c.if-moment-deref.false) in
    omega (arith, before, all, no_longer c.args.moment c.args.self.now.pairs, c.requires.few)

pub overflow_add-result-else-moment-deref : goal.overflow_add-result-else-moment-deref
overflow_add-result-else-moment-deref t c =
    let over = top_is _ _ c.in-Some.node c.self.view_is c.self.invariant c.in-Some.is in
    let before = rw c.deref.ensures at c.count_up_to-before.ensures in
    let behind = rw c.deref-else-moment-deref.ensures at c.count_up_to.ensures in
    let all = counted _ _ _ _ c.args.moment over (rw c.deref-2.ensures at c.if-moment-deref.false) in
    omega (arith, before, behind, all, no_longer c.args.moment c.args.self.now.pairs, c.requires.few)

pub returns-then-moment-deref : goal.returns-then-moment-deref
returns-then-moment-deref t c =
    let over = top_is _ _ c.in-Some.node c.self.view_is c.self.invariant c.in-Some.is in
    let before = rw c.deref.ensures at c.count_up_to-before.ensures in
    before ∙ sym (ap length (none_right _ _ _ _ c.args.moment over (rw c.deref-2.ensures at c.if-moment-deref.true)))

pub returns-else-moment-deref : goal.returns-else-moment-deref
returns-else-moment-deref t c =
    let over = top_is _ _ c.in-Some.node c.self.view_is c.self.invariant c.in-Some.is in
    let before = rw c.deref.ensures at c.count_up_to-before.ensures in
    let behind = rw c.deref-else-moment-deref.ensures at c.count_up_to.ensures in
    let all = counted _ _ _ _ c.args.moment over (rw c.deref-2.ensures at c.if-moment-deref.false) in
    rw (before, behind) all
