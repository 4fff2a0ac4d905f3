-- The answers of calls one after another, and what is told after them.
use Rattle.std.proofs.Common.{◌≡◌, ℕ, zero, suc, ◌+◌, ◌≤◌, refl, arith}
use Rattle.std.proofs.Common.{List, [], ◌∷◌, ◌++◌, Option, None, Some, length, take, append_assoc}
use Rattle.std.proofs.lemmas.List.{length-append}
use Rattle.std.proofs.lemmas.Option.{get_or_from_slice_get, none-some}
use Rattle.fk_io.specs.Telling.{rest_of, Tells, rest_after, told_of, Gave}

-- what is told after so many calls and then so many more
pub rest_after-sum : (n m : ℕ) (items : List ℕ) →
    rest_after (n + m) items ≡ rest_after m (rest_after n items)
unfolding rest_after
rest_after-sum zero m items = let e : 0 + m ≡ m = omega arith in rw e
rest_after-sum (suc n) m items =
    let e : suc n + m ≡ suc (n + m) = omega arith in
    rw e (rest_after-sum n m (rest_of items))

-- the answers of so many calls and then of so many more
pub told_of-sum : (n m : ℕ) (items : List ℕ) →
    told_of (n + m) items ≡ told_of n items ++ told_of m (rest_after n items)
unfolding told_of rest_after
told_of-sum zero m items = let e : 0 + m ≡ m = omega arith in rw e
told_of-sum (suc n) m items =
    let e : suc n + m ≡ suc (n + m) = omega arith in
    rw (e, append_assoc, ← told_of-sum n m (rest_of items))

-- no call was made
pub told_nothing : (told : Option (List ℕ)) → Gave told [] told
unfolding told_of rest_after
told_nothing None = record { all = tt; left = refl }
told_nothing (Some items) = record { all = refl; left = refl }

-- one call was made
pub told_one : (before after : Option (List ℕ)) (answer : ℕ) →
    Tells before answer after → Gave before (answer ∷ []) after
unfolding told_of rest_after
told_one None after answer one = record { all = tt; left = one.rest }
told_one (Some []) after answer one = absurd (none-some answer one.first)
told_one (Some (item ∷ items)) after answer one = record {
  all = rw (get_or_from_slice_get (item ∷ items) 0 answer 0 one.first);
  left = one.rest;
}

-- calls were made, and then others
pub told_both : (a b c : Option (List ℕ)) (xs ys : List ℕ) →
    Gave a xs b → Gave b ys c → Gave a (xs ++ ys) c
told_both None b c xs ys first second = record {
  all = tt;
  left = rw (second.left, first.left);
}
told_both (Some items) b c xs ys first second =
    let then : ys ≡ told_of (length ys) (rest_after (length xs) items) = rw first.left at second.all in
    record {
      all = rw (length-append, told_of-sum, ← first.all, ← then);
      left = rw (second.left, first.left, length-append, rest_after-sum);
    }

-- one call was made, and then others
pub told_then : (a b c : Option (List ℕ)) (answer : ℕ) (answers : List ℕ) →
    Tells a answer b → Gave b answers c → Gave a (answer ∷ answers) c
told_then a b c answer answers first second =
    told_both a b c (answer ∷ []) answers (told_one a b answer first) second

-- calls were made, and then one more
pub told_one_more : (a b c : Option (List ℕ)) (answers : List ℕ) (answer : ℕ) →
    Gave a answers b → Tells b answer c → Gave a (answers ++ answer ∷ []) c
told_one_more a b c answers answer first second =
    told_both a b c answers (answer ∷ []) first (told_one b c answer second)

-- while items last, the answers are those items
pub told_of_within : (n : ℕ) (items : List ℕ) → n ≤ length items → told_of n items ≡ take n items
unfolding told_of
told_of_within zero items within = refl
told_of_within (suc n) [] within = absurd (omega (arith, within))
told_of_within (suc zero) (item ∷ []) within = refl
told_of_within (suc (suc n)) (item ∷ []) within = absurd (omega (arith, within))
told_of_within (suc n) (item ∷ next ∷ items) within =
    let inside : n ≤ length (next ∷ items) = omega (arith, within) in
    rw (told_of_within n (next ∷ items) inside)
