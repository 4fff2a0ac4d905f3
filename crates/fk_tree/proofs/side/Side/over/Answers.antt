use Rattle.fk_tree.specs.Side.{pair_of}
use Rattle.fk_tree.proofs.Tops.{over_is}
use Rattle.fk_tree.proofs.side.Side.over.Goals as goal

pub returns : goal.returns
returns c = over_is _ c.args.left c.args.right (pair_of c.args.node.value.key) (cc) (cc) c.requires.sides
