-- A side of a node is a tree of its own: what it is seen as, and what holds of it.
use Rattle.std.specs.Prelude.{◌≡◌, ℕ, ◌<◌, ◌≤◌, max, List, [], ◌++◌, Option, None, Some, Box}
use Rattle.std.specs.declared.alloc.Global.{Global}
use Rattle.fk_tree.specs.declared.key.Key.{Key}
use Rattle.fk_tree.specs.declared.side.Node.{Node}
use Rattle.fk_tree.specs.Shape.{AreSides, DifferByAtMost, pairs_over, height_over}

abbrev pub pair_of : Key → ℕ × ℕ
pair_of key = (key.moment, key.ticket)

abbrev pub pairs_of : Option (Box Node Global) → List (ℕ × ℕ)
pairs_of None = []
pairs_of (Some node) = pairs_over node.value.left (pair_of node.value.key) node.value.right

-- the pairs of the two sides of what stands there
abbrev pub sides_of : Option (Box Node Global) → List (ℕ × ℕ)
sides_of None = []
sides_of (Some node) = node.value.left.pairs ++ node.value.right.pairs

-- no level where nothing stands, else what the node tells
abbrev pub height_of : Option (Box Node Global) → ℕ
height_of None = 0
height_of (Some node) = node.value.height

-- what stands there is a node whose heights differ by at most one, and it tells its own height
abbrev pub IsBalanced : Option (Box Node Global) → Type 0
IsBalanced None = Unit {0}
IsBalanced (Some node) =
    AreSides 1 node.value.left (pair_of node.value.key) node.value.right
    × (node.value.height ≡ height_over node.value.left node.value.right)

-- what stands there is a node one of whose sides rose or fell by a level, and whose height isn't set yet
abbrev pub IsNear : Option (Box Node Global) → Type 0
IsNear None = Unit {0}
IsNear (Some node) =
    AreSides 2 node.value.left (pair_of node.value.key) node.value.right
    × (max node.value.left.height node.value.right.height < 255)

-- a height that the sides of what stands there allow: where they differ by two, they may be turned into
-- one level less
abbrev pub IsAllowed : Option (Box Node Global) → ℕ → Type 0
IsAllowed None height = height ≡ 0
IsAllowed (Some node) height =
    (max node.value.left.height node.value.right.height ≤ height)
    × (height ≤ height_over node.value.left node.value.right)
    × (DifferByAtMost 1 node.value.left node.value.right → height ≡ height_over node.value.left node.value.right)
