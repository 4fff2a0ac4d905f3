use Rattle.std.proofs.Common.{◌<◌, ◌≤◌, arith}
use Rattle.fk_tree.proofs.Turns.{left_once, left_top, left_inner, left_outer, left_middle}
use Rattle.fk_tree.proofs.turning.turned_left.Goals as goal

pub over-left-requires-clause-sides : goal.over-left-requires-clause-sides
over-left-requires-clause-sides c =
    let high : c.in-Some.field-0.left.height ≤ c.in-Some.field-0.right.height = omega (arith, c.if-height.true) in
    left_once _ _ _ _ _ _ c.requires.sides c.in-Some.ensures.some c.requires.right_high high

pub over-requires-clause-sides : goal.over-requires-clause-sides
over-requires-clause-sides c =
    let high : c.in-Some.field-0.left.height ≤ c.in-Some.field-0.right.height = omega (arith, c.if-height.true) in
    left_top _ _ _ _ _ _ _ c.requires.sides c.in-Some.ensures.some c.requires.right_high high c.over-left.ensures

pub over-left-requires-2-clause-sides : goal.over-left-requires-2-clause-sides
over-left-requires-2-clause-sides c =
    let high : c.in-Some.field-0.right.height < c.in-Some.field-0.left.height = omega (arith, c.if-height.false) in
    left_inner _ _ _ _ _ _ _ _ _ c.requires.sides c.in-Some.ensures.some c.in-Some-into_parts.ensures.some
    c.requires.right_high high

pub over-right-requires-clause-sides : goal.over-right-requires-clause-sides
over-right-requires-clause-sides c =
    let high : c.in-Some.field-0.right.height < c.in-Some.field-0.left.height = omega (arith, c.if-height.false) in
    left_outer _ _ _ _ _ _ _ _ _ c.requires.sides c.in-Some.ensures.some c.in-Some-into_parts.ensures.some
    c.requires.right_high high

pub over-requires-2-clause-sides : goal.over-requires-2-clause-sides
over-requires-2-clause-sides c =
    let high : c.in-Some.field-0.right.height < c.in-Some.field-0.left.height = omega (arith, c.if-height.false) in
    left_middle _ _ _ _ _ _ _ _ _ _ _ c.requires.sides c.in-Some.ensures.some c.in-Some-into_parts.ensures.some
    c.requires.right_high high c.over-left-2.ensures c.over-right.ensures
