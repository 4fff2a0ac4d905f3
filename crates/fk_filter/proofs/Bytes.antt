-- How a part for one byte is held against a text, and what a pattern begins with.
use Rattle.std.proofs.Common.{◌≡◌, ◌≢◌, ◌-◌, ◌<◌, ◌≤◌, ℕ, suc, true, false, List, [], ◌∷◌, ◌++◌, refl, sym, ap, subst, arith, length, take, drop, slice_index_or}
use Rattle.std.proofs.Math.Seq.{take-length}
use Rattle.std.proofs.lemmas.Bool.{ne_eqb}
use Rattle.std.proofs.lemmas.List.{append_assoc}
use Rattle.fk_model.specs.Glob.{Part, run, one, itself, backslash, part_of, parts_of}
use Rattle.fk_filter.specs.Match.{Match, MatchesEnd}
use Rattle.fk_filter.specs.Stretches.{LeadsTo, takes}
use Rattle.fk_filter.proofs.Ends.{at_once, only_end}

-- as many as there are
all_of : (count : ℕ) (rest : List ℕ) → count ≡ length rest → take count rest ≡ rest
all_of count rest is = rw is (take-length rest)

-- what stands behind the first byte
pub first_and_behind : (text : List ℕ) → 1 ≤ length text
    → text ≡ slice_index_or text 0 0 ∷ take (length text - 1) (drop 1 text)
first_and_behind [] some = absurd (omega (arith, some))
first_and_behind (byte ∷ rest) some = ap (λ bytes. byte ∷ bytes) (sym (all_of _ rest (omega arith)))

-- a part for one byte begins with one that it takes
pub one_byte : (part : Part) (parts : List Part) (text : List ℕ) → part ≢ run → Match (part ∷ parts) text
    → (byte : ℕ) × (rest : List ℕ) × (text ≡ byte ∷ rest) × (takes part byte ≡ true) × Match parts rest
unfolding Match
one_byte run parts text single matched = absurd (single refl)
one_byte one parts [] single matched = absurd matched
one_byte one parts (byte ∷ rest) single matched = (byte, rest, refl, refl, matched)
one_byte (itself wanted) parts [] single matched = absurd matched
one_byte (itself wanted) parts (byte ∷ rest) single matched =
    (byte, rest, refl, grind (arith, matched.0), matched.1)

-- it takes the first byte, and the others match what stands behind
pub goes_on : (part : Part) (parts : List Part) (byte : ℕ) (rest : List ℕ) → takes part byte ≡ true
    → Match parts rest → Match (part ∷ parts) (byte ∷ rest)
unfolding Match
goes_on run parts byte rest takes_it matched = absurd (grind (arith, takes_it))
goes_on one parts byte rest takes_it matched = matched
goes_on (itself wanted) parts byte rest takes_it matched = (grind (arith, takes_it), matched)

-- an end that it begins has an end of what stands behind the first byte
ends_behind : (part : Part) (parts : List Part) (byte : ℕ) (rest : List ℕ) → part ≢ run
    → MatchesEnd (part ∷ parts) (byte ∷ rest) → MatchesEnd parts rest
unfolding Match
ends_behind part parts byte rest single ([], end, is, matched) =
    let (first, left, begins, taken, behind) = one_byte part parts end single matched in
    subst (MatchesEnd parts) (grind (arith, is, begins)) (at_once parts left behind)
ends_behind part parts byte rest single (other ∷ front, end, is, matched) =
    let (first, left, begins, taken, behind) = one_byte part parts end single matched in
    (front ++ first ∷ [], left, grind (arith, is, begins, append_assoc), behind)

-- a byte that the part takes leads to what stands behind both
pub past_byte : (part : Part) (parts : List Part) (text : List ℕ) (byte : ℕ) (rest : List ℕ) → part ≢ run
    → text ≡ byte ∷ rest → takes part byte ≡ true → LeadsTo (part ∷ parts) text parts rest
past_byte part parts text byte rest single is taken = rw is (record {
  here = (
    λ matched. let (first, left, begins, takes_it, behind) = one_byte part parts (byte ∷ rest) single matched in
        subst (Match parts) (grind (arith, begins)) behind,
    goes_on part parts byte rest taken,
  );
  later = ends_behind part parts byte rest single;
})

-- a byte that the part doesn't take
pub other_byte : (part : Part) (parts : List Part) (text : List ℕ) (byte : ℕ) (rest : List ℕ) → part ≢ run
    → text ≡ byte ∷ rest → takes part byte ≡ false → ¬ Match (part ∷ parts) text
other_byte part parts text byte rest single is taken matched =
    let (first, left, begins, takes_it, behind) = one_byte part parts text single matched in
    absurd (grind (arith, is, begins, taken, takes_it))

-- no byte is left
pub no_byte : (part : Part) (parts : List Part) (text : List ℕ) → part ≢ run → length text < 1
    → ¬ MatchesEnd (part ∷ parts) text
no_byte part parts [] single none matched =
    let (first, left, begins, takes_it, behind) =
    one_byte part parts [] single (only_end (part ∷ parts) matched) in
    absurd (grind (arith, begins))
no_byte part parts (byte ∷ rest) single none matched = absurd (omega (arith, none))

-- a `\` and what stands behind it
pub escapes : (behind : List ℕ) → 1 ≤ length behind
    → (parts_of (backslash ∷ behind)
    ≡ itself (slice_index_or behind 0 0) ∷ parts_of (take (length behind - 1) (drop 1 behind)))
    × (length (take (length behind - 1) (drop 1 behind)) < length (backslash ∷ behind))
unfolding parts_of
escapes [] some = absurd (omega (arith, some))
escapes (byte ∷ rest) some = rw (all_of (suc (length rest) - 1) rest (omega arith)) (refl, omega arith)

-- a `\` at the end
pub escapes_nothing : (behind : List ℕ) → length behind < 1
    → (parts_of (backslash ∷ behind) ≡ itself backslash ∷ parts_of behind)
    × (length behind < length (backslash ∷ behind))
unfolding parts_of
escapes_nothing [] none = (refl, omega arith)
escapes_nothing (byte ∷ rest) none = absurd (omega (arith, none))

-- another byte and what stands behind it
pub stands : (byte : ℕ) (behind : List ℕ) → byte ≢ backslash
    → (parts_of (byte ∷ behind) ≡ part_of byte ∷ parts_of behind) × (length behind < length (byte ∷ behind))
unfolding parts_of
stands byte [] other = (refl, omega arith)
stands byte (next ∷ rest) other = rw (ne_eqb byte backslash other) (refl, omega arith)
