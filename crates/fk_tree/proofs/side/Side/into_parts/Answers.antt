use Rattle.fk_tree.proofs.Tops.{top_is}
use Rattle.fk_tree.proofs.side.Side.into_parts.Goals as goal

pub returns-clause-some : goal.returns-clause-some
returns-clause-some c =
    rw (c.take-right.ensures.value, c.deref_mut-2.ensures.value, c.take-left.ensures.value, c.deref_mut.ensures.value)
    (top_is c.args.self c.self.inside.top c.in_ok-node.node c.self.view_is c.self.invariant c.in_ok-node.was)
