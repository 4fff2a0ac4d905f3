use Rattle.std.proofs.Common.{◌<◌, ◌≤◌, arith}
use Rattle.fk_tree.proofs.Turns.{right_once, right_top, right_outer, right_inner, right_middle}
use Rattle.fk_tree.proofs.turning.turned_right.Goals as goal

pub over-right-requires-clause-sides : goal.over-right-requires-clause-sides
over-right-requires-clause-sides c =
    let high : c.in-Some.field-0.right.height ≤ c.in-Some.field-0.left.height = omega (arith, c.if-height.true) in
    right_once _ _ _ _ _ _ c.requires.sides c.in-Some.ensures.some c.requires.left_high high

pub over-requires-clause-sides : goal.over-requires-clause-sides
over-requires-clause-sides c =
    let high : c.in-Some.field-0.right.height ≤ c.in-Some.field-0.left.height = omega (arith, c.if-height.true) in
    right_top _ _ _ _ _ _ _ c.requires.sides c.in-Some.ensures.some c.requires.left_high high c.over-right.ensures

pub over-left-requires-clause-sides : goal.over-left-requires-clause-sides
over-left-requires-clause-sides c =
    let high : c.in-Some.field-0.left.height < c.in-Some.field-0.right.height = omega (arith, c.if-height.false) in
    right_outer _ _ _ _ _ _ _ _ _ c.requires.sides c.in-Some.ensures.some c.in-Some-into_parts.ensures.some
    c.requires.left_high high

pub over-right-requires-2-clause-sides : goal.over-right-requires-2-clause-sides
over-right-requires-2-clause-sides c =
    let high : c.in-Some.field-0.left.height < c.in-Some.field-0.right.height = omega (arith, c.if-height.false) in
    right_inner _ _ _ _ _ _ _ _ _ c.requires.sides c.in-Some.ensures.some c.in-Some-into_parts.ensures.some
    c.requires.left_high high

pub over-requires-2-clause-sides : goal.over-requires-2-clause-sides
over-requires-2-clause-sides c =
    let high : c.in-Some.field-0.left.height < c.in-Some.field-0.right.height = omega (arith, c.if-height.false) in
    right_middle _ _ _ _ _ _ _ _ _ _ _ c.requires.sides c.in-Some.ensures.some c.in-Some-into_parts.ensures.some
    c.requires.left_high high c.over-left.ensures c.over-right-2.ensures
