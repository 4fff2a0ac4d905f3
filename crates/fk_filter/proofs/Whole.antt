-- The parts are the whole text, by the test, exactly where they match it.
use Rattle.std.proofs.Common.{◌≡◌, ◌↔◌, ℕ, Bool, true, false, List, [], ◌∷◌, ◌++◌, refl, ap, inl, inr, arith}
use Rattle.std.specs.Prelude.{IsTrue}
use Rattle.std.specs.List.{list_any}
use Rattle.std.proofs.lemmas.Bool.{or_cases, or_left, or_right}
use Rattle.fk_model.specs.Glob.{Part, run, one, itself, are_whole, ends_of}
use Rattle.fk_filter.specs.Match.{Match}
use Rattle.fk_filter.proofs.Says.{is_as}

-- an end that passes a test is found among the ends
finds_end : (test : List ℕ → Bool) (front rest : List ℕ) → test rest ≡ true
    → list_any test (ends_of (front ++ rest)) ≡ true
finds_end test [] [] passes = or_left (test []) false passes
finds_end test [] (byte ∷ rest) passes =
    or_left (test (byte ∷ rest)) (list_any test (ends_of rest)) passes
finds_end test (byte ∷ front) rest passes =
    or_right (test (byte ∷ (front ++ rest))) (list_any test (ends_of (front ++ rest)))
    (finds_end test front rest passes)

-- an end of the text that passes a test
abbrev HasEnd : (List ℕ → Bool) → List ℕ → Type 0
HasEnd test text = (front : List ℕ) × (rest : List ℕ) × (text ≡ front ++ rest) × (test rest ≡ true)

-- one that is found is an end
is_end : (test : List ℕ → Bool) (text : List ℕ) → list_any test (ends_of text) ≡ true → HasEnd test text
is_end test [] found =
    elim (or_cases (test []) false found) [
      | inl passes ↦ ([], [], refl, passes)
      | inr none ↦ absurd (grind (arith, none))
    ]
is_end test (byte ∷ rest) found =
    elim (or_cases (test (byte ∷ rest)) (list_any test (ends_of rest)) found) [
      | inl passes ↦ ([], byte ∷ rest, refl, passes)
      | inr behind ↦
          let (front, end, is, passes) = is_end test rest behind in
          (byte ∷ front, end, ap (λ bytes. byte ∷ bytes) is, passes)
    ]

-- what matches passes the test
whole : (parts : List Part) (text : List ℕ) → Match parts text → are_whole parts text ≡ true
unfolding Match are_whole
whole [] text is = rw is refl
whole (run ∷ parts) text (front, rest, is, matched) =
    rw is (finds_end (are_whole parts) front rest (whole parts rest matched))
whole (one ∷ parts) [] matched = absurd matched
whole (one ∷ parts) (byte ∷ rest) matched = whole parts rest matched
whole (itself byte ∷ parts) [] matched = absurd matched
whole (itself byte ∷ parts) (first ∷ rest) (is, matched) = grind (arith, is, whole parts rest matched)

-- what passes it matches
matches : (parts : List Part) (text : List ℕ) → are_whole parts text ≡ true → Match parts text
unfolding Match are_whole
matches [] [] passes = refl
matches [] (byte ∷ rest) passes = absurd (grind (arith, passes))
matches (run ∷ parts) text passes =
    let (front, rest, is, found) = is_end (are_whole parts) text passes in
    (front, rest, is, matches parts rest found)
matches (one ∷ parts) [] passes = absurd (grind (arith, passes))
matches (one ∷ parts) (byte ∷ rest) passes = matches parts rest passes
matches (itself byte ∷ parts) [] passes = absurd (grind (arith, passes))
matches (itself byte ∷ parts) (first ∷ rest) passes =
    (grind (arith, passes), matches parts rest (grind (arith, passes)))

-- so what tells whether they match is the test
pub tells_whole : (parts : List Part) (text : List ℕ) (found : Bool) → IsTrue found ↔ Match parts text
    → found ≡ are_whole parts text
tells_whole parts text found tells =
    is_as (Match parts text) found (are_whole parts text) tells (matches parts text) (whole parts text)
