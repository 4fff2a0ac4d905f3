use Rattle.std.proofs.Common.{◌∙◌, ap, sym, subst, arith}
use Rattle.fk_tree.specs.Side.{pairs_of, height_of, sides_of, IsBalanced}
use Rattle.fk_tree.proofs.taking.remove_top.Goals as goal

pub joined-rest-requires : goal.joined-rest-requires
joined-rest-requires g c =
    let there = subst IsBalanced c.in-Some.is c.requires.balanced in
    rw (c.take-left.ensures.value, c.take-right.ensures.value, c.deref-2.ensures, c.deref_mut-2.ensures.value, c.deref_mut.ensures.value)
    (record { few = rw c.in-Some.is at c.requires.few; sides = there.0 })

-- what was there, and what is now
pub returns-clause-pairs : goal.returns-clause-pairs
returns-clause-pairs g c =
    let joined = rw (c.take-left.ensures.value, c.take-right.ensures.value, c.deref_mut-2.ensures.value, c.deref_mut.ensures.value) at c.joined-rest.ensures.pairs in
    ap pairs_of c.replace.ensures.after ∙ c.into_top.ensures.pairs ∙ joined ∙ sym (ap sides_of c.in-Some.is)

pub returns-clause-balanced : goal.returns-clause-balanced
returns-clause-balanced g c = subst IsBalanced (sym c.replace.ensures.after) c.into_top.ensures.balanced

pub returns-clause-not_lower : goal.returns-clause-not_lower
returns-clause-not_lower g c =
    let there = subst IsBalanced c.in-Some.is c.requires.balanced in
    let joined = rw (c.take-left.ensures.value, c.take-right.ensures.value, c.deref_mut-2.ensures.value, c.deref_mut.ensures.value) at c.joined-rest.ensures.not_lower in
    omega (arith, ap height_of c.in-Some.is, there.1, ap height_of c.replace.ensures.after, c.into_top.ensures.height, joined)

pub returns-clause-not_higher : goal.returns-clause-not_higher
returns-clause-not_higher g c =
    let there = subst IsBalanced c.in-Some.is c.requires.balanced in
    let joined = rw (c.take-left.ensures.value, c.take-right.ensures.value, c.deref_mut-2.ensures.value, c.deref_mut.ensures.value) at c.joined-rest.ensures.not_higher in
    omega (arith, ap height_of c.in-Some.is, there.1, ap height_of c.replace.ensures.after, c.into_top.ensures.height, joined)

pub returns-clause-steps : goal.returns-clause-steps
returns-clause-steps g c =
    let there = subst IsBalanced c.in-Some.is c.requires.balanced in
    let joined = rw (c.take-right.ensures.value, c.deref_mut-2.ensures.value, c.deref_mut.ensures.value) at c.joined-rest.ensures.steps in
    omega (arith, ap height_of c.in-Some.is, there.1, joined)
