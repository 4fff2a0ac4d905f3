-- The last element that passes a test.
use Rattle.std.proofs.Common.{◌≡◌, ℕ, ◌+◌, ◌<◌, Bool, true, false, cond, List, [], ◌∷◌, ◌++◌, length, drop, take, reverse, find, get_or, Option, None, Some, refl, sym, ap, subst, ◌∙◌}
use Rattle.std.proofs.lemmas.List.{drop_more, reverse-append, take-append-drop}
use Rattle.std.specs.List.{AllByRecursion}

-- the first of two answers that is one
abbrev pub or_else : {X : Type 0} → Option X → Option X → Option X
or_else None other = other
or_else (Some x) other = Some x

else_cond : {X : Type 0} (t : Bool) (x : X) (a b o : Option X) → a ≡ or_else b o
    → cond t (Some x) a ≡ or_else (cond t (Some x) b) o
else_cond true x a b o h = refl
else_cond false x a b o h = h

find-append : {X : Type 0} (p : X → Bool) (xs ys : List X)
    → find p (xs ++ ys) ≡ or_else (find p xs) (find p ys)
find-append p [] ys = refl
find-append p (x ∷ xs) ys = else_cond (p x) x _ _ _ (find-append p xs ys)

-- the elements from a place on, the last of them first
from_place : {X : Type 0} (p : X → Bool) (xs : List X) (at n : ℕ) (x : X) → at < length xs → n ≡ at + 1
    → x ≡ get_or xs at x → find p (reverse (drop n xs)) ≡ None
    → find p (reverse (drop at xs)) ≡ cond (p x) (Some x) None
from_place p xs at n x inside next is none =
    let there : drop at xs ≡ x ∷ drop n xs
    = rw (next, drop_more xs at x inside) (ap (λ y. y ∷ drop (at + 1) xs) (sym is)) in
    ap (λ l. find p (reverse l)) there
    ∙ ap (find p) (reverse-append (x ∷ []) (drop n xs))
    ∙ find-append p (reverse (drop n xs)) (x ∷ [])
    ∙ ap (λ o. or_else o (find p (x ∷ []))) none

pub none_from : {X : Type 0} (p : X → Bool) (xs : List X) (at n : ℕ) (x : X) → at < length xs → n ≡ at + 1
    → x ≡ get_or xs at x → find p (reverse (drop n xs)) ≡ None → p x ≡ false
    → find p (reverse (drop at xs)) ≡ None
none_from p xs at n x inside next is none fails =
    from_place p xs at n x inside next is none ∙ ap (λ t. cond t (Some x) None) fails

pub some_at : {X : Type 0} (p : X → Bool) (xs : List X) (at n : ℕ) (x : X) → at < length xs → n ≡ at + 1
    → x ≡ get_or xs at x → find p (reverse (drop n xs)) ≡ None → p x ≡ true
    → Some x ≡ find p (reverse xs)
some_at p xs at n x inside next is none passes =
    let here = from_place p xs at n x inside next is none ∙ ap (λ t. cond t (Some x) None) passes in
    sym (
    ap (λ l. find p (reverse l)) (sym (take-append-drop at xs))
    ∙ ap (find p) (reverse-append (take at xs) (drop at xs))
    ∙ find-append p (reverse (drop at xs)) (reverse (take at xs))
    ∙ ap (λ o. or_else o (find p (reverse (take at xs)))) here
    )

-- ---- what holds of all holds of the one that is found

all_append : {X : Type 0} (P : X → Type 0) (xs ys : List X) → AllByRecursion P xs → AllByRecursion P ys
    → AllByRecursion P (xs ++ ys)
all_append P [] ys here there = there
all_append P (x ∷ xs) ys here there = (here.0, all_append P xs ys here.1 there)

all_reverse : {X : Type 0} (P : X → Type 0) (xs : List X) → AllByRecursion P xs
    → AllByRecursion P (reverse xs)
all_reverse P [] all = tt
all_reverse P (x ∷ xs) all =
    subst (AllByRecursion P) (sym (reverse-append (x ∷ []) xs))
    (all_append P (reverse xs) (x ∷ []) (all_reverse P xs all.1) (all.0, tt))

found_cond : {X : Type 0} (P : X → Type 0) (t : Bool) (x y : X) (o : Option X) → P x → (o ≡ Some y → P y)
    → cond t (Some x) o ≡ Some y → P y
found_cond P true x y o here there e = let same : x ≡ y = cc in subst P same here
found_cond P false x y o here there e = there e

find_all : {X : Type 0} (P : X → Type 0) (p : X → Bool) (xs : List X) (y : X) → AllByRecursion P xs
    → find p xs ≡ Some y → P y
find_all P p [] y all e = absurd (cc)
find_all P p (x ∷ xs) y all e = found_cond P (p x) x y (find p xs) all.0 (find_all P p xs y all.1) e

pub last_all : {X : Type 0} (P : X → Type 0) (p : X → Bool) (xs : List X) (y : X) → AllByRecursion P xs
    → Some y ≡ find p (reverse xs) → P y
last_all P p xs y all e = find_all P p (reverse xs) y (all_reverse P xs all) (sym e)
