-- A search for CR or LF that goes on where the last one ended finds what one from the front would.
use Rattle.std.proofs.Common.{◌≡◌, ◌≢◌, ℕ, ◌+◌, ◌-◌, ◌<◌, ◌≤◌, List, length, drop, arith, get_or, false, refl, sym, inl, inr}
use Rattle.std.proofs.lemmas.Bool.{cases_lt, ne_eqb}
use Rattle.std.proofs.lemmas.Bool.Decides.{nat_tests}
use Rattle.std.proofs.lemmas.List.{get_or-drop, length-drop}
use Rattle.std.proofs.lemmas.List.Sums.{position_or_len_is, fails_before_first, passes_at_first, prefix_len-le-length}
use Rattle.fk_frame.specs.Bytes.{carriage_return, line_feed}
use Rattle.fk_frame.specs.Fronts.{is_break, line_length, IsSearched}

-- what the test says
fails : (byte : ℕ) → byte ≢ carriage_return → byte ≢ line_feed → is_break byte ≡ false
fails byte return feed = rw (ne_eqb byte 13 return, ne_eqb byte 10 feed) refl

no_return : (byte : ℕ) → is_break byte ≡ false → byte ≢ carriage_return
no_return byte none e = grind (arith, nat_tests)

no_feed : (byte : ℕ) → is_break byte ≡ false → byte ≢ line_feed
no_feed byte none e = grind (arith, nat_tests)

-- where the search from a place on ends: at the first CR or LF, or at the end
abbrev pub search_end : List ℕ → ℕ → ℕ
search_end bytes scanned = scanned + line_length (drop scanned bytes)

-- neither is among the bytes that were looked at and those that the search goes past
goes_on : (bytes : List ℕ) (from scanned : ℕ) → IsSearched bytes from scanned
    → (k : ℕ) → from ≤ k → k < search_end bytes scanned → is_break (get_or bytes k 0) ≡ false
goes_on bytes from scanned seen k ge lt =
    elim (cases_lt k scanned) [
      | inl below ↦ fails _ (seen.no_return k ge below) (seen.no_feed k ge below)
      | inr past ↦ (
          let here : k - scanned < line_length (drop scanned bytes) = omega arith in
          let same : scanned + (k - scanned) ≡ k = omega arith in
          let none = fails_before_first is_break (drop scanned bytes) (k - scanned) 0 here in
          rw (get_or-drop, same) at none)
    ]

-- no search goes past the end
search_within : (bytes : List ℕ) (from scanned : ℕ) → IsSearched bytes from scanned
    → search_end bytes scanned ≤ length bytes
search_within bytes from scanned seen =
    let most : line_length (drop scanned bytes) ≤ length (drop scanned bytes) = prefix_len-le-length _ _ in
    omega (arith, length-drop {A = ℕ}, seen.within)

-- what the search went past was looked at
pub searched_on : (bytes : List ℕ) (from scanned end : ℕ) → IsSearched bytes from scanned
    → end ≡ search_end bytes scanned → IsSearched bytes from end
searched_on bytes from scanned end seen is =
    rw is (record {
      begun = omega (arith, seen.begun);
      within = search_within bytes from scanned seen;
      no_return = λ k ge lt. no_return _ (goes_on bytes from scanned seen k ge lt);
      no_feed = λ k ge lt. no_feed _ (goes_on bytes from scanned seen k ge lt);
    })

-- the first behind what was looked at is the first of all
pub first_break : (bytes : List ℕ) (from scanned end : ℕ) → IsSearched bytes from scanned
    → end ≡ search_end bytes scanned → end - from ≡ line_length (drop from bytes)
first_break bytes from scanned end seen is =
    let begun : from ≤ scanned = seen.begun in
    let same : from + (search_end bytes scanned - from) ≡ search_end bytes scanned = omega arith in
    rw is (sym (position_or_len_is is_break (drop from bytes) (search_end bytes scanned - from) 0
    (omega (arith, length-drop {A = ℕ}, search_within bytes from scanned seen))
    (λ k lt. rw get_or-drop (goes_on bytes from scanned seen (from + k) (omega arith) (omega arith)))
    (λ lt. rw (get_or-drop, same)
    (rw get_or-drop at (passes_at_first is_break (drop scanned bytes) 0 (omega (arith, length-drop {A = ℕ})))))))

-- nothing was looked at yet
pub unsearched : (bytes : List ℕ) (from : ℕ) → from ≤ length bytes → IsSearched bytes from from
unsearched bytes from within = record {
  begun = omega arith;
  within = within;
  no_return = λ k ge lt. absurd (omega arith);
  no_feed = λ k ge lt. absurd (omega arith);
}
