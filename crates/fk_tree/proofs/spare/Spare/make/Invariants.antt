use Rattle.std.proofs.Common.{◌≤◌, ◌-◌, max, vec_len}
use Rattle.fk_tree.proofs.spare.Spare.make.Given as goal

-- the nodes stay, and there are no more than were asked for
abbrev pub invariant-nodes : goal.invariant-nodes
invariant-nodes l =
    (vec_len l.initial.self-inside.nodes ≤ vec_len l.self-inside.nodes)
    × (vec_len l.self-inside.nodes ≤ max (vec_len l.initial.self-inside.nodes) l.count)

abbrev pub decreases-nodes : goal.decreases-nodes
decreases-nodes l = l.count - vec_len l.self-inside.nodes
