-- What holds of each item of a list and of its parts.
use Rattle.std.proofs.Common.{List, [], ◌∷◌, ◌++◌}
use Rattle.std.specs.List.{AllByRecursion}

pub all_append : {X : Type 0} (P : X → Type 0) (xs ys : List X) → AllByRecursion P xs → AllByRecursion P ys → AllByRecursion P (xs ++ ys)
all_append P [] ys some others = others
all_append P (x ∷ xs) ys some others = (some.0, all_append P xs ys some.1 others)

pub all_left : {X : Type 0} (P : X → Type 0) (xs ys : List X) → AllByRecursion P (xs ++ ys) → AllByRecursion P xs
all_left P [] ys every = tt
all_left P (x ∷ xs) ys every = (every.0, all_left P xs ys every.1)

pub all_right : {X : Type 0} (P : X → Type 0) (xs ys : List X) → AllByRecursion P (xs ++ ys) → AllByRecursion P ys
all_right P [] ys every = every
all_right P (x ∷ xs) ys every = all_right P xs ys every.1

pub all_weaker : {X : Type 0} (P Q : X → Type 0) → ((x : X) → P x → Q x) → (xs : List X) → AllByRecursion P xs → AllByRecursion Q xs
all_weaker P Q step [] every = tt
all_weaker P Q step (x ∷ xs) every = (step x every.0, all_weaker P Q step xs every.1)

pub all_both : {X : Type 0} (P Q R : X → Type 0) → ((x : X) → P x → Q x → R x) → (xs : List X) → AllByRecursion P xs → AllByRecursion Q xs → AllByRecursion R xs
all_both P Q R step [] every other = tt
all_both P Q R step (x ∷ xs) every other = (step x every.0 other.0, all_both P Q R step xs every.1 other.1)
