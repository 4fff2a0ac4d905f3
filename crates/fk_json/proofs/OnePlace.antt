-- A text stops being one at one place at most, or goes too deep at one: not both, and no text does.
use Rattle.std.proofs.Common.{◌≡◌, inl, inr, ℕ, ◌+◌, ◌<◌, ◌≤◌, List, ◌++◌, length, take, drop, sym, ap, subst, ◌∙◌, arith}
use Rattle.std.proofs.lemmas.Bool.{cases_lt}
use Rattle.std.proofs.lemmas.List.{append_assoc, take-append-drop, take-take}
use Rattle.fk_json.specs.Json.{Begins, FailsAt, IsTooDeepAt, most_levels}

-- ---- a prefix of what begins a text begins one

shorter_front : (less more : ℕ) (text rest : List ℕ) → less ≤ more
    → take more text ++ rest ≡ take less text ++ (drop less (take more text) ++ rest)
shorter_front less more text rest l =
    ap (λ x. x ++ rest) (sym (take-append-drop less (take more text)))
    ∙ append_assoc (take less (take more text)) (drop less (take more text)) rest
    ∙ ap (λ x. x ++ (drop less (take more text) ++ rest)) (take-take less more text l)

shorter_begins : {I : Type 0} (IsTextOf : ℕ → List ℕ → List I → Type 0) (levels less more : ℕ) (text : List ℕ)
    → less ≤ more → Begins IsTextOf levels (take more text) → Begins IsTextOf levels (take less text)
shorter_begins IsTextOf levels less more text l (rest, items, is) = (
  drop less (take more text) ++ rest,
  items,
  subst (λ x. IsTextOf levels x items) (shorter_front less more text rest l) is,
)

-- ---- one place

no_later_fault : {I : Type 0} (IsTextOf : ℕ → List ℕ → List I → Type 0) (text : List ℕ) (one other : ℕ)
    → FailsAt IsTextOf text one → FailsAt IsTextOf text other → ¬ (one < other)
no_later_fault IsTextOf text one other is also l =
    is.longest other l also.inside (most_levels, also.begins)

no_later_depth : {I : Type 0} (IsTextOf : ℕ → List ℕ → List I → Type 0) (text : List ℕ) (one other : ℕ)
    → IsTooDeepAt IsTextOf text one → ¬ (Begins IsTextOf most_levels (take other text) × (one < other))
no_later_depth IsTextOf text one other is (begins, l) =
    is.too_deep (shorter_begins IsTextOf most_levels (one + 1) other text (omega (arith, l)) begins)

same_place : (one other : ℕ) → ¬ (one < other) → ¬ (other < one) → one ≡ other
same_place one other up down =
    elim (cases_lt one other) [
      | inl less ↦ absurd (up less)
      | inr most ↦ (
          elim (cases_lt other one) [
            | inl less ↦ absurd (down less)
            | inr least ↦ omega (arith, most, least)
          ])
    ]

-- a text fails at one place
pub place_one : {I : Type 0} (IsTextOf : ℕ → List ℕ → List I → Type 0) (text : List ℕ) (one other : ℕ)
    → FailsAt IsTextOf text one → FailsAt IsTextOf text other → one ≡ other
place_one IsTextOf text one other is also =
    same_place one other (no_later_fault IsTextOf text one other is also)
    (no_later_fault IsTextOf text other one also is)

-- and goes too deep at one
pub depth_one : {I : Type 0} (IsTextOf : ℕ → List ℕ → List I → Type 0) (text : List ℕ) (one other : ℕ)
    → IsTooDeepAt IsTextOf text one → IsTooDeepAt IsTextOf text other → one ≡ other
depth_one IsTextOf text one other is also =
    same_place one other (λ l. no_later_depth IsTextOf text one other is (also.begins, l))
    (λ l. no_later_depth IsTextOf text other one also (is.begins, l))

-- not both
pub fails_or_deep : {I : Type 0} (IsTextOf : ℕ → List ℕ → List I → Type 0) (text : List ℕ) (at depth : ℕ)
    → FailsAt IsTextOf text at → ¬ IsTooDeepAt IsTextOf text depth
fails_or_deep IsTextOf text at depth fails deep =
    elim (cases_lt depth at) [
      | inl before ↦ no_later_depth IsTextOf text depth at deep (fails.begins, before)
      | inr behind ↦ (
          let l : at < depth + 1 = omega (arith, behind) in
          let within : depth + 1 ≤ length text = omega (arith, deep.inside) in
          fails.longest (depth + 1) l within deep.goes_on)
    ]

-- ---- a text has no such place

pub text_no_fault : {I : Type 0} (IsTextOf : ℕ → List ℕ → List I → Type 0) (text : List ℕ) (items : List I) (at : ℕ)
    → IsTextOf most_levels text items → ¬ FailsAt IsTextOf text at
text_no_fault IsTextOf text items at is fails = fails.none most_levels items is

pub text_not_deep : {I : Type 0} (IsTextOf : ℕ → List ℕ → List I → Type 0) (text : List ℕ) (items : List I) (at : ℕ)
    → IsTextOf most_levels text items → ¬ IsTooDeepAt IsTextOf text at
text_not_deep IsTextOf text items at is deep =
    deep.too_deep (
      drop (at + 1) text,
      items,
      subst (λ x. IsTextOf most_levels x items) (sym (take-append-drop (at + 1) text)) is,
    )
