-- What a filter keeps of a list in two parts, and what holds of each element of the parts.
use Rattle.std.proofs.Common.{◌≡◌, Bool, true, false, cond, List, [], ◌∷◌, ◌++◌, refl, ap, append-nil, ◌∙◌}
use Rattle.std.specs.Prelude.{filter}
use Rattle.std.specs.List.{AllByRecursion}
use Rattle.std.proofs.lemmas.List.Elements.{filter-append}

-- ---- each element

pub all_front : {X : Type 0} (P : X → Type 0) (front back : List X) → AllByRecursion P (front ++ back) → AllByRecursion P front
all_front P [] back each = tt
all_front P (x ∷ front) back each = (each.0, all_front P front back each.1)

pub all_back : {X : Type 0} (P : X → Type 0) (front back : List X) → AllByRecursion P (front ++ back) → AllByRecursion P back
all_back P [] back each = each
all_back P (x ∷ front) back each = all_back P front back each.1

pub all_join : {X : Type 0} (P : X → Type 0) (front back : List X)
    → AllByRecursion P front → AllByRecursion P back → AllByRecursion P (front ++ back)
all_join P [] back one other = other
all_join P (x ∷ front) back one other = (one.0, all_join P front back one.1 other)

pub all_weaker : {X : Type 0} (P Q : X → Type 0) → ((x : X) → P x → Q x)
    → (xs : List X) → AllByRecursion P xs → AllByRecursion Q xs
all_weaker P Q weaker [] each = tt
all_weaker P Q weaker (x ∷ xs) each = (weaker x each.0, all_weaker P Q weaker xs each.1)

all_if : {X : Type 0} (P : X → Type 0) (x : X) (xs : List X) (keep : Bool)
    → P x → AllByRecursion P xs → AllByRecursion P (cond keep (x ∷ xs) xs)
all_if P x xs true one each = (one, each)
all_if P x xs false one each = each

pub all_filter : {X : Type 0} (P : X → Type 0) (test : X → Bool) (xs : List X)
    → AllByRecursion P xs → AllByRecursion P (filter test xs)
all_filter P test [] each = tt
all_filter P test (x ∷ xs) each = all_if P x (filter test xs) (test x) each.0 (all_filter P test xs each.1)

-- ---- one element

pub kept_first : {X : Type 0} (test : X → Bool) (x : X) (xs : List X)
    → test x ≡ true → filter test (x ∷ xs) ≡ x ∷ filter test xs
kept_first test x xs keep = ap (λ (b : Bool). cond b (x ∷ filter test xs) (filter test xs)) keep

pub lost_first : {X : Type 0} (test : X → Bool) (x : X) (xs : List X)
    → test x ≡ false → filter test (x ∷ xs) ≡ filter test xs
lost_first test x xs lost = ap (λ (b : Bool). cond b (x ∷ filter test xs) (filter test xs)) lost

-- ---- all of a part, or nothing of it

pub kept_all : {X : Type 0} (test : X → Bool) (xs : List X)
    → AllByRecursion (λ x. test x ≡ true) xs → filter test xs ≡ xs
kept_all test [] each = refl
kept_all test (x ∷ xs) each = kept_first test x xs each.0 ∙ ap (λ rest. x ∷ rest) (kept_all test xs each.1)

pub lost_all : {X : Type 0} (test : X → Bool) (xs : List X)
    → AllByRecursion (λ x. test x ≡ false) xs → filter test xs ≡ []
lost_all test [] each = refl
lost_all test (x ∷ xs) each = lost_first test x xs each.0 ∙ lost_all test xs each.1

pub back_kept : {X : Type 0} (test : X → Bool) (front back : List X)
    → AllByRecursion (λ x. test x ≡ true) back → filter test (front ++ back) ≡ filter test front ++ back
back_kept test front back each = filter-append test front back ∙ ap (λ rest. filter test front ++ rest) (kept_all test back each)

pub back_lost : {X : Type 0} (test : X → Bool) (front back : List X)
    → AllByRecursion (λ x. test x ≡ false) back → filter test (front ++ back) ≡ filter test front
back_lost test front back each =
    filter-append test front back ∙ ap (λ rest. filter test front ++ rest) (lost_all test back each)
    ∙ append-nil (filter test front)

pub front_kept : {X : Type 0} (test : X → Bool) (front back : List X)
    → AllByRecursion (λ x. test x ≡ true) front → filter test (front ++ back) ≡ front ++ filter test back
front_kept test front back each = filter-append test front back ∙ ap (λ first. first ++ filter test back) (kept_all test front each)

pub front_lost : {X : Type 0} (test : X → Bool) (front back : List X)
    → AllByRecursion (λ x. test x ≡ false) front → filter test (front ++ back) ≡ filter test back
front_lost test front back each = filter-append test front back ∙ ap (λ first. first ++ filter test back) (lost_all test front each)
