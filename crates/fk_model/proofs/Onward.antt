-- What holds of all items from a place on: of the one there, and of all behind it.
use Rattle.std.proofs.Common.{◌≡◌, ℕ, ◌+◌, zero, suc, List, [], ◌∷◌, drop, Bool, true, false, ◌<◌, length, None, Some, ◌↔◌, ap, refl, sym, arith, unwrap_or}
use Rattle.std.proofs.lemmas.Bool.{false≢true}
use Rattle.std.proofs.lemmas.List.Elements.{All-cons, All-head, All-tail}
use Rattle.std.specs.Prelude.{All, IsTrue}
use Rattle.std.specs.List.{slice_get}
use Rattle.std.specs.Option.{is_some}

drop_some : {X : Type 0} (xs : List X) (at : ℕ) (x : X)
    → slice_get xs at ≡ Some x → drop at xs ≡ x ∷ drop (suc at) xs
drop_some [] at x e = absurd (false≢true (ap is_some e))
drop_some (first ∷ xs) zero x e = ap (λ one. one ∷ xs) (ap (λ got. unwrap_or got first) e)
drop_some (first ∷ xs) (suc at) x e = drop_some xs at x e

pub all_onward : {X : Type 0} (P : X → Type 0) (xs : List X) (at : ℕ) (x : X) (holds : Bool)
    → slice_get xs at ≡ Some x → IsTrue holds ↔ P x
    → All P (drop at xs) ↔ (IsTrue holds × All P (drop (at + 1) xs))
all_onward P xs at x holds e same =
    let next : at + 1 ≡ suc at = omega arith in
    rw (drop_some xs at x e, next) (
      (λ all. (same.1 (All-head P x (drop (suc at) xs) all), All-tail P x (drop (suc at) xs) all)),
      (λ both. All-cons P x (drop (suc at) xs) (same.0 both.0) both.1),
    )

-- no item is there, so the place isn't within the list
pub none_within : {X : Type 0} (xs : List X) (at : ℕ) → slice_get xs at ≡ None → at < length xs → ⊥
none_within [] at none within = omega (arith, within)
none_within (first ∷ xs) zero none within = absurd (false≢true (sym (ap is_some none)))
none_within (first ∷ xs) (suc at) none within = none_within xs at none (omega (arith, within))

-- what is left at the next place tells of all, if the item here holds
pub tells_onward : (here later all : Type 0) (holds : Bool) → holds ≡ true → here ↔ (IsTrue holds × later)
    → here ↔ all → later ↔ all
tells_onward here later all true e one whole =
    ((λ l. whole.0 (one.1 (refl, l))), (λ a. (one.0 (whole.1 a)).1))
tells_onward here later all false e one whole = absurd (false≢true e)
