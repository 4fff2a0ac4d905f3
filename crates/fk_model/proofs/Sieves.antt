-- What is left of a list after one filter, and after two.
use Rattle.std.proofs.Common.{◌≡◌, ◌∙◌, sym, ap, refl, List, [], ◌∷◌, ◌++◌, Bool, true, false, filter}
use Rattle.std.specs.Prelude.{All, if◌then◌else◌, Option, None, Some, IfSome, filter_map}
use Rattle.std.proofs.lemmas.List.Elements.{All-nil, All-cons, All-head, All-tail, All-weaker, filter-append, filter_passes}

-- ---- all of a list, and nothing of it

-- where each element passes, the list stays
pub filter_all : {X : Type 0} (p : X → Bool) (xs : List X)
    → All (λ x. p x ≡ true) xs → filter p xs ≡ xs
filter_all p [] each = refl
filter_all p (x ∷ xs) each =
    rw (All-head (λ y. p y ≡ true) x xs each, filter_all p xs (All-tail (λ y. p y ≡ true) x xs each))
    refl

-- where none passes, nothing is left
pub filter_none : {X : Type 0} (p : X → Bool) (xs : List X)
    → All (λ x. p x ≡ false) xs → filter p xs ≡ []
filter_none p [] each = refl
filter_none p (x ∷ xs) each =
    rw (All-head (λ y. p y ≡ false) x xs each, filter_none p xs (All-tail (λ y. p y ≡ false) x xs each))
    refl

-- ---- around one element

-- an element that passes stays in its place
pub filter_around : {X : Type 0} (p : X → Bool) (front back : List X) (x : X)
    → p x ≡ true → filter p (front ++ x ∷ back) ≡ filter p front ++ x ∷ filter p back
filter_around p front back x passes =
    filter-append p front (x ∷ back)
    ∙ ap (λ b. filter p front ++ (if b then x ∷ filter p back else filter p back)) passes

-- one that doesn't pass is left out
pub filter_past : {X : Type 0} (p : X → Bool) (front back : List X) (x : X)
    → p x ≡ false → filter p (front ++ x ∷ back) ≡ filter p front ++ filter p back
filter_past p front back x fails =
    filter-append p front (x ∷ back)
    ∙ ap (λ b. filter p front ++ (if b then x ∷ filter p back else filter p back)) fails

-- ---- two filters

filter_if : {X : Type 0} (p : X → Bool) (test : Bool) (x : X) (xs : List X)
    → filter p (if test then x ∷ xs else xs)
    ≡ (if test then (if p x then x ∷ filter p xs else filter p xs) else filter p xs)
filter_if p true x xs = refl
filter_if p false x xs = refl

if_if : {X : Type 0} (one other : Bool) (xs ys : List X)
    → (if one then (if other then xs else ys) else ys)
    ≡ (if other then (if one then xs else ys) else ys)
if_if true true xs ys = refl
if_if true false xs ys = refl
if_if false true xs ys = refl
if_if false false xs ys = refl

-- it doesn't matter which of two filters comes first
pub filter_swap : {X : Type 0} (p q : X → Bool) (xs : List X)
    → filter p (filter q xs) ≡ filter q (filter p xs)
filter_swap p q [] = refl
filter_swap p q (x ∷ xs) =
    filter_if p (q x) x (filter q xs)
    ∙ ap (λ ys. if q x then (if p x then x ∷ ys else ys) else ys) (filter_swap p q xs)
    ∙ if_if (q x) (p x) (x ∷ filter q (filter p xs)) (filter q (filter p xs))
    ∙ sym (filter_if q (p x) x (filter p xs))

-- what passes one passes the other too
pub filter_within : {X : Type 0} (p q : X → Bool)
    → ((x : X) → q x ≡ true → p x ≡ true) → (xs : List X) → filter p (filter q xs) ≡ filter q xs
filter_within p q follows xs =
    filter_all p (filter q xs)
    (All-weaker (λ x. q x ≡ true) (λ x. p x ≡ true) follows (filter q xs) (filter_passes q xs))

-- what passes one doesn't pass the other
pub filter_apart : {X : Type 0} (p q : X → Bool)
    → ((x : X) → q x ≡ true → p x ≡ false) → (xs : List X) → filter p (filter q xs) ≡ []
filter_apart p q follows xs =
    filter_none p (filter q xs)
    (All-weaker (λ x. q x ≡ true) (λ x. p x ≡ false) follows (filter q xs) (filter_passes q xs))

-- ---- a list of what a function gives

mapped_step : {X Y : Type 0} (h : X → Option Y) (p : Y → Bool) (q : X → Bool) (x : X) (xs : List X)
    (given : Option Y) (keeps : Bool) → h x ≡ given → q x ≡ keeps
    → ((y : Y) → h x ≡ Some y → p y ≡ q x)
    → filter p (filter_map h xs) ≡ filter_map h (filter q xs)
    → filter p (filter_map h (x ∷ xs)) ≡ filter_map h (filter q (x ∷ xs))
mapped_step h p q x xs None true e f agree rest = rw (f, e) rest
mapped_step h p q x xs None false e f agree rest = rw (f, e) rest
mapped_step h p q x xs (Some y) true e f agree rest =
    let passes : p y ≡ true = agree y e ∙ f in
    rw (f, e, passes) (ap (λ ys. y ∷ ys) rest)
mapped_step h p q x xs (Some y) false e f agree rest =
    let passes : p y ≡ false = agree y e ∙ f in
    rw (f, e, passes) rest

-- a filter of what is given is what a filter of the list gives
pub filter_mapped : {X Y : Type 0} (h : X → Option Y) (p : Y → Bool) (q : X → Bool)
    → ((x : X) (y : Y) → h x ≡ Some y → p y ≡ q x) → (xs : List X)
    → filter p (filter_map h xs) ≡ filter_map h (filter q xs)
filter_mapped h p q agree [] = refl
filter_mapped h p q agree (x ∷ xs) =
    mapped_step h p q x xs (h x) (q x) refl refl (agree x) (filter_mapped h p q agree xs)

all_mapped_step : {X Y : Type 0} (P : Y → Type 0) (h : X → Option Y) (x : X) (xs : List X)
    (given : Option Y) → h x ≡ given → IfSome given P → All P (filter_map h xs)
    → All P (filter_map h (x ∷ xs))
all_mapped_step P h x xs None e first rest = rw e rest
all_mapped_step P h x xs (Some y) e first rest = rw e (All-cons P y (filter_map h xs) first rest)

-- what holds of what each element gives holds of all that is given
pub all_mapped : {X Y : Type 0} (P : Y → Type 0) (h : X → Option Y) (xs : List X)
    → All (λ x. IfSome (h x) P) xs → All P (filter_map h xs)
all_mapped P h [] each = All-nil P
all_mapped P h (x ∷ xs) each =
    all_mapped_step P h x xs (h x) refl (All-head (λ y. IfSome (h y) P) x xs each)
    (all_mapped P h xs (All-tail (λ y. IfSome (h y) P) x xs each))
