-- What is found in a list that is cut, filtered, or has one element more.
use Rattle.std.proofs.Common.{◌≡◌, ap, refl, List, [], ◌∷◌, ◌++◌, Bool, true, false, filter}
use Rattle.std.specs.Prelude.{All, if◌then◌else◌, None, Some, find}
use Rattle.std.proofs.lemmas.List.Elements.{All-head, All-tail}

-- where none of the first passes, it is found behind them
pub find_behind : {X : Type 0} (p : X → Bool) (front back : List X)
    → All (λ x. p x ≡ false) front → find p (front ++ back) ≡ find p back
find_behind p [] back fail = refl
find_behind p (x ∷ front) back fail =
    rw (All-head (λ y. p y ≡ false) x front fail)
    (find_behind p front back (All-tail (λ y. p y ≡ false) x front fail))

-- where none passes, nothing is found
pub find_none : {X : Type 0} (p : X → Bool) (xs : List X)
    → All (λ x. p x ≡ false) xs → find p xs ≡ None
find_none p [] fail = refl
find_none p (x ∷ xs) fail =
    rw (All-head (λ y. p y ≡ false) x xs fail)
    (find_none p xs (All-tail (λ y. p y ≡ false) x xs fail))

-- an element that doesn't pass changes nothing
pub find_past : {X : Type 0} (p : X → Bool) (front back : List X) (x : X)
    → p x ≡ false → find p (front ++ x ∷ back) ≡ find p (front ++ back)
find_past p [] back x fails = rw fails refl
find_past p (y ∷ front) back x fails =
    ap (λ found. if p y then Some y else found) (find_past p front back x fails)

find_if : {X : Type 0} (p q : X → Bool) (x : X) (xs : List X) (passes keeps : Bool)
    → p x ≡ passes → q x ≡ keeps → (p x ≡ true → q x ≡ true) → find p (filter q xs) ≡ find p xs
    → find p (filter q (x ∷ xs)) ≡ find p (x ∷ xs)
find_if p q x xs true true e f follows rest = rw f (rw e refl)
find_if p q x xs true false e f follows rest = absurd (cc (follows e))
find_if p q x xs false true e f follows rest = rw f (rw e rest)
find_if p q x xs false false e f follows rest = rw f (rw e rest)

-- a filter that keeps all that may be found changes nothing
pub find_filter : {X : Type 0} (p q : X → Bool) → ((x : X) → p x ≡ true → q x ≡ true)
    → (xs : List X) → find p (filter q xs) ≡ find p xs
find_filter p q follows [] = refl
find_filter p q follows (x ∷ xs) =
    find_if p q x xs (p x) (q x) refl refl (follows x) (find_filter p q follows xs)

-- what is found passes
pub find_passes : {X : Type 0} (p : X → Bool) (xs : List X) (found : X)
    → find p xs ≡ Some found → p found ≡ true
find_passes p [] found at = absurd (cc)
find_passes p (x ∷ xs) found at = found_if p x xs found (p x) refl at (find_passes p xs found)
  where
    found_if : {X : Type 0} (p : X → Bool) (x : X) (xs : List X) (found : X) (test : Bool)
        → p x ≡ test → (if test then Some x else find p xs) ≡ Some found
        → (find p xs ≡ Some found → p found ≡ true) → p found ≡ true
    found_if p x xs found true e at rest = let same : x ≡ found = cc in rw (← same) e
    found_if p x xs found false e at rest = rest at

-- what holds of each element holds of what is found
pub find_holds : {X : Type 0} (P : X → Type 0) (p : X → Bool) (xs : List X) (found : X)
    → All P xs → find p xs ≡ Some found → P found
find_holds P p [] found each at = absurd (cc)
find_holds P p (x ∷ xs) found each at =
    held_if P p x xs found (p x) (All-head P x xs each) at
    (find_holds P p xs found (All-tail P x xs each))
  where
    held_if : {X : Type 0} (P : X → Type 0) (p : X → Bool) (x : X) (xs : List X) (found : X)
        (test : Bool) → P x → (if test then Some x else find p xs) ≡ Some found
        → (find p xs ≡ Some found → P found) → P found
    held_if P p x xs found true first at rest = let same : x ≡ found = cc in rw (← same) first
    held_if P p x xs found false first at rest = rest at
