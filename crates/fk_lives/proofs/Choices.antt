-- What holds or doesn't, so that one of the two is known.
use Rattle.std.proofs.Common.{◌≡◌, ◌⊎◌, ◌∙◌, sym, refl, inl, inr, arith, ℕ, ◌<◌, ◌≤◌, Bool, true, false, List, [], ◌∷◌}
use Rattle.std.specs.Prelude.{All, IsTrue, Option, None, Some, IfSome, IsSomeAnd, bytes_eq}
use Rattle.std.proofs.lemmas.Bool.{cases_Bool, cases_lt, false≢true}
use Rattle.std.proofs.lemmas.List.Elements.{All-cons, All-head, All-nil, All-tail}
use Rattle.std.proofs.lemmas.Slice.Eq.{bytes_eq-Decides}

-- it holds or it doesn't
abbrev pub IsKnown : Type 0 → Type 0
IsKnown P = P ⊎ (¬ P)

pub known_le : (m n : ℕ) → IsKnown (m ≤ n)
known_le m n = elim (cases_lt n m) [ inl less ↦ inr (λ le. omega (arith, less, le)) | inr le ↦ inl le ]

pub known_lt : (m n : ℕ) → IsKnown (m < n)
known_lt m n = elim (cases_lt m n) [ inl less ↦ inl less | inr le ↦ inr (λ less. omega (arith, less, le)) ]

pub known_bytes : (one other : List ℕ) → IsKnown (one ≡ other)
known_bytes one other =
    let decides = bytes_eq-Decides one other in
    elim (cases_Bool (bytes_eq one other)) [
      | inl holds ↦ inl (decides.0 holds)
      | inr fails ↦ inr (λ same. false≢true (sym fails ∙ decides.1 same))
    ]

pub known_true : (test : Bool) → IsKnown (IsTrue test)
known_true true = inl refl
known_true false = inr (λ same. false≢true same)

pub known_not : {P : Type 0} → IsKnown P → IsKnown (¬ P)
known_not (inl holds) = inr (λ fails. fails holds)
known_not (inr fails) = inl fails

pub known_both : {P Q : Type 0} → IsKnown P → IsKnown Q → IsKnown (P × Q)
known_both (inl one) (inl other) = inl (one, other)
known_both (inl one) (inr none) = inr (λ both. none both.1)
known_both (inr none) other = inr (λ both. none both.0)

-- what is the same as something known
pub known_as : {P Q : Type 0} → (P → Q) → (Q → P) → IsKnown P → IsKnown Q
known_as there back (inl holds) = inl (there holds)
known_as there back (inr fails) = inr (λ other. fails (back other))

pub known_if : {X : Type 0} (P : X → Type 0) → ((x : X) → IsKnown (P x)) → (found : Option X) → IsKnown (IfSome found P)
known_if P each None = inl tt
known_if P each (Some x) = each x

pub known_and : {X : Type 0} (P : X → Type 0) → ((x : X) → IsKnown (P x)) → (found : Option X)
    → IsKnown (IsSomeAnd found P)
known_and P each None = inr (λ none. none)
known_and P each (Some x) = each x

pub known_all : {X : Type 0} (P : X → Type 0) → ((x : X) → IsKnown (P x)) → (xs : List X) → IsKnown (All P xs)
known_all P each [] = inl (All-nil P)
known_all P each (x ∷ xs) =
    known_as (λ both. All-cons P x xs both.0 both.1) (λ all. (All-head P x xs all, All-tail P x xs all))
    (known_both (each x) (known_all P each xs))
