-- A node with its two sides, and the side that it stands at the top of.
use Rattle.std.proofs.Common.{◌≡◌, ℕ, ◌+◌, ◌<◌, max, ◌∷◌, ◌++◌, length, length-append, ap, sym, subst, ◌∙◌, arith, Box, Option, Some}
use Rattle.std.specs.declared.alloc.Global.{Global}
use Rattle.fk_tree.specs.declared.side.Node.{Node}
use Rattle.fk_tree.specs.Shape.{Shape, AreSides, IsOver, pairs_over, height_over}
use Rattle.fk_tree.specs.Side.{pair_of, pairs_of, height_of, IsBalanced}
use Rattle.fk_tree.proofs.Halves.{full_over}

-- a side with these pairs and this height is full
pub over_is : (side left right : Shape) (pair : ℕ × ℕ) → side.pairs ≡ pairs_over left pair right
    → side.height ≡ height_over left right → AreSides 1 left pair right → IsOver side left pair right
over_is side left right pair pairs height sides =
    let full = full_over left right pair (height_over left right) sides.left_full sides.right_full
    (omega (arith, sides.differ.0, sides.differ.1)) (omega (arith, sides.differ.0, sides.differ.1)) in
    record { pairs = pairs; height = height; sides = sides; full = rw (pairs, height) full }

-- what a side says of the node at its top
pub top_is : (side : Shape) (top : Option (Box Node Global)) (node : Box Node Global)
    → record { pairs = pairs_of top; height = height_of top } ≡ side → IsBalanced top → top ≡ Some node
    → IsOver side node.value.left (pair_of node.value.key) node.value.right
top_is side top node view balanced is =
    let there = subst IsBalanced is balanced in
    over_is side node.value.left node.value.right (pair_of node.value.key)
    (sym (ap (λ (shape : Shape). shape.pairs) view) ∙ ap pairs_of is)
    (sym (ap (λ (shape : Shape). shape.height) view) ∙ ap height_of is ∙ there.1) there.0

-- the same of what is read of that node
pub top_now : (side : Shape) (top : Option (Box Node Global)) (node : Box Node Global) (now : Node)
    → record { pairs = pairs_of top; height = height_of top } ≡ side → IsBalanced top → top ≡ Some node
    → now ≡ node.value → IsOver side now.left (pair_of now.key) now.right
top_now side top node now view balanced is same =
    subst (λ (value : Node). IsOver side value.left (pair_of value.key) value.right) (sym same)
    (top_is side top node view balanced is)

-- it tells the height
pub top_told : (side : Shape) (top : Option (Box Node Global)) (node : Box Node Global) (now : Node)
    → record { pairs = pairs_of top; height = height_of top } ≡ side → top ≡ Some node
    → now ≡ node.value → now.height ≡ side.height
top_told side top node now view is same =
    ap (λ (value : Node). value.height) same ∙ sym (ap height_of is) ∙ ap (λ (shape : Shape). shape.height) view

pub height_is : (side left right : Shape) (pair : ℕ × ℕ) → IsOver side left pair right
    → side.height ≡ max left.height right.height + 1
height_is side left right pair over = over.height

-- each side has fewer pairs
pub shorter_left : (side left right : Shape) (pair : ℕ × ℕ) → IsOver side left pair right
    → length left.pairs < length side.pairs
shorter_left side left right pair over = rw over.pairs (omega (arith, length-append left.pairs (pair ∷ right.pairs)))

pub shorter_right : (side left right : Shape) (pair : ℕ × ℕ) → IsOver side left pair right
    → length right.pairs < length side.pairs
shorter_right side left right pair over = rw over.pairs (omega (arith, length-append left.pairs (pair ∷ right.pairs)))

pub shorter_both : (side left right : Shape) (pair : ℕ × ℕ) → IsOver side left pair right
    → length (left.pairs ++ right.pairs) < length side.pairs
shorter_both side left right pair over =
    rw over.pairs (omega (arith, length-append left.pairs (pair ∷ right.pairs), length-append left.pairs right.pairs))
