-- What holds at one pair of moments after another: of one disk that goes on, of both, told otherwise, and joined.
use Rattle.std.proofs.Common.{◌≡◌, ℕ, zero, suc, ◌+◌, ◌≤◌, arith, refl, sym, subst, List, [], ◌∷◌, ◌++◌}
use Rattle.fk_journal.specs.declared.fault.File.{File}
use Rattle.fk_journal.specs.declared.fault.File.TheVariants.{A, B}
use Rattle.fk_lives.specs.Ways.{HoldsOn}

-- ---- one disk

-- A goes on by so many moments
pub way_a : (Holds : ℕ → ℕ → Type 0) (n at_a at_b end_a : ℕ) → at_a + n ≡ end_a
    → ((at : ℕ) → at_a ≤ at → at ≤ end_a → Holds at at_b)
    → (order : List File) × HoldsOn Holds at_a at_b order end_a at_b
unfolding HoldsOn
way_a Holds zero at_a at_b end_a is holds =
    let same : at_a ≡ end_a = omega (arith, is) in
    ([], (same, refl, holds at_a (omega arith) (omega (arith, same))))
way_a Holds (suc n) at_a at_b end_a is holds =
    let more : suc at_a + n ≡ end_a = omega (arith, is) in
    let rest : (order : List File) × HoldsOn Holds (suc at_a) at_b order end_a at_b =
    way_a Holds n (suc at_a) at_b end_a more (λ at from to. holds at (omega (arith, from)) to) in
    (A ∷ rest.0, (holds at_a (omega arith) (omega (arith, is)), rest.1))

-- and so does B
pub way_b : (Holds : ℕ → ℕ → Type 0) (n at_a at_b end_b : ℕ) → at_b + n ≡ end_b
    → ((at : ℕ) → at_b ≤ at → at ≤ end_b → Holds at_a at)
    → (order : List File) × HoldsOn Holds at_a at_b order at_a end_b
unfolding HoldsOn
way_b Holds zero at_a at_b end_b is holds =
    let same : at_b ≡ end_b = omega (arith, is) in
    ([], (refl, same, holds at_b (omega arith) (omega (arith, same))))
way_b Holds (suc n) at_a at_b end_b is holds =
    let more : suc at_b + n ≡ end_b = omega (arith, is) in
    let rest : (order : List File) × HoldsOn Holds at_a (suc at_b) order at_a end_b =
    way_b Holds n at_a (suc at_b) end_b more (λ at from to. holds at (omega (arith, from)) to) in
    (B ∷ rest.0, (holds at_b (omega arith) (omega (arith, is)), rest.1))

-- ---- both disks

-- no moment is behind the end
pub within_a : (Holds : ℕ → ℕ → Type 0) (order : List File) (at_a at_b end_a end_b : ℕ)
    → HoldsOn Holds at_a at_b order end_a end_b → at_a ≤ end_a
unfolding HoldsOn
within_a Holds [] at_a at_b end_a end_b on = omega (arith, on.0)
within_a Holds (A ∷ order) at_a at_b end_a end_b on =
    omega (arith, within_a Holds order (suc at_a) at_b end_a end_b on.1)
within_a Holds (B ∷ order) at_a at_b end_a end_b on = within_a Holds order at_a (suc at_b) end_a end_b on.1

pub within_b : (Holds : ℕ → ℕ → Type 0) (order : List File) (at_a at_b end_a end_b : ℕ)
    → HoldsOn Holds at_a at_b order end_a end_b → at_b ≤ end_b
unfolding HoldsOn
within_b Holds [] at_a at_b end_a end_b on = omega (arith, on.1)
within_b Holds (A ∷ order) at_a at_b end_a end_b on = within_b Holds order (suc at_a) at_b end_a end_b on.1
within_b Holds (B ∷ order) at_a at_b end_a end_b on =
    omega (arith, within_b Holds order at_a (suc at_b) end_a end_b on.1)

-- what holds at each moment up to the end may be told otherwise
pub way_as : (Holds Others : ℕ → ℕ → Type 0) (order : List File) (at_a at_b end_a end_b : ℕ)
    → ((a b : ℕ) → a ≤ end_a → b ≤ end_b → Holds a b → Others a b)
    → HoldsOn Holds at_a at_b order end_a end_b → HoldsOn Others at_a at_b order end_a end_b
unfolding HoldsOn
way_as Holds Others [] at_a at_b end_a end_b told on =
    (on.0, on.1, told at_a at_b (omega (arith, on.0)) (omega (arith, on.1)) on.2)
way_as Holds Others (A ∷ order) at_a at_b end_a end_b told on =
    let low_a : at_a ≤ end_a = omega (arith, within_a Holds order (suc at_a) at_b end_a end_b on.1) in
    let low_b : at_b ≤ end_b = within_b Holds order (suc at_a) at_b end_a end_b on.1 in
    (told at_a at_b low_a low_b on.0, way_as Holds Others order (suc at_a) at_b end_a end_b told on.1)
way_as Holds Others (B ∷ order) at_a at_b end_a end_b told on =
    let low_a : at_a ≤ end_a = within_a Holds order at_a (suc at_b) end_a end_b on.1 in
    let low_b : at_b ≤ end_b = omega (arith, within_b Holds order at_a (suc at_b) end_a end_b on.1) in
    (told at_a at_b low_a low_b on.0, way_as Holds Others order at_a (suc at_b) end_a end_b told on.1)

-- one way after another
pub way_then : (Holds : ℕ → ℕ → Type 0) (first second : List File) (at_a at_b mid_a mid_b end_a end_b : ℕ)
    → HoldsOn Holds at_a at_b first mid_a mid_b → HoldsOn Holds mid_a mid_b second end_a end_b
    → HoldsOn Holds at_a at_b (first ++ second) end_a end_b
unfolding HoldsOn
way_then Holds [] second at_a at_b mid_a mid_b end_a end_b one two =
    subst (λ a. HoldsOn Holds a at_b second end_a end_b) (sym one.0)
    (subst (λ b. HoldsOn Holds mid_a b second end_a end_b) (sym one.1) two)
way_then Holds (A ∷ first) second at_a at_b mid_a mid_b end_a end_b one two =
    (one.0, way_then Holds first second (suc at_a) at_b mid_a mid_b end_a end_b one.1 two)
way_then Holds (B ∷ first) second at_a at_b mid_a mid_b end_a end_b one two =
    (one.0, way_then Holds first second at_a (suc at_b) mid_a mid_b end_a end_b one.1 two)

-- it holds at the end
pub way_end : (Holds : ℕ → ℕ → Type 0) (order : List File) (at_a at_b end_a end_b : ℕ)
    → HoldsOn Holds at_a at_b order end_a end_b → Holds end_a end_b
unfolding HoldsOn
way_end Holds [] at_a at_b end_a end_b on =
    subst (λ a. Holds a end_b) on.0 (subst (λ b. Holds at_a b) on.1 on.2)
way_end Holds (A ∷ order) at_a at_b end_a end_b on = way_end Holds order (suc at_a) at_b end_a end_b on.1
way_end Holds (B ∷ order) at_a at_b end_a end_b on = way_end Holds order at_a (suc at_b) end_a end_b on.1
