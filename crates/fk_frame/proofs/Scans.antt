-- A scan that goes on where the last one ended finds what a scan from the front would.
use Rattle.std.proofs.Common.{◌≡◌, ◌≢◌, ℕ, ◌+◌, ◌-◌, ◌<◌, ◌≤◌, List, ◌++◌, length, drop, arith, get_or, ◌⊎◌, true, false, refl, inl, inr, ap, ◌∙◌}
use Rattle.std.specs.List.{position_or_len, slice_range, after_first, Contains}
use Rattle.std.proofs.lemmas.Bool.{cases_Bool, cases_lt, ne_eqb, eqb-true, eqb-false}
use Rattle.std.proofs.lemmas.Bool.Decides.{nat_tests}
use Rattle.std.proofs.lemmas.List.{get_or-drop, drop-drop, length-drop, get_or_default, take_rest}
use Rattle.std.proofs.lemmas.List.Sums.{position_or_len_is, fails_before_first, passes_at_first, prefix_len-le-length}
use Rattle.fk_frame.specs.Bytes.{line_feed, is_line_feed}
use Rattle.fk_frame.specs.Lines.{longest_line, is_too_long, without_return}
use Rattle.fk_frame.specs.Reading.{front_of, IsFirstLine, HasLine, HasNoLine, HasLongLine}
use Rattle.fk_frame.specs.Scanned.{IsScanned}
use Rattle.fk_frame.proofs.Lines.{no_lines, first_then_rest, long_first, front_grows}

-- what the test of a line's length says
is_longer : (line : List ℕ) → is_too_long line ≡ true → longest_line < length line
is_longer line long = grind (arith, nat_tests)

is_no_longer : (line : List ℕ) → is_too_long line ≡ false → length line ≤ longest_line
is_no_longer line short = grind (arith, nat_tests)

-- where the scan from a place on ends: at the first line feed, or at the end
abbrev pub scan_end : List ℕ → ℕ → ℕ
scan_end bytes scanned = scanned + position_or_len is_line_feed (drop scanned bytes)

-- no line feed is among the bytes that were looked at and those that the scan goes past
goes_on : (bytes : List ℕ) (from scanned : ℕ) → IsScanned bytes from scanned
    → (k : ℕ) → from ≤ k → k < scan_end bytes scanned → get_or bytes k 0 ≢ line_feed
goes_on bytes from scanned seen k ge lt =
    elim (cases_lt k scanned) [
      | inl below ↦ seen.seen k ge below
      | inr past ↦ (
          let here : k - scanned < position_or_len is_line_feed (drop scanned bytes) = omega arith in
          let same : scanned + (k - scanned) ≡ k = omega arith in
          let fails = eqb-false _ _ (fails_before_first is_line_feed (drop scanned bytes) (k - scanned) 0 here) in
          rw (get_or-drop, same) at fails)
    ]

-- no scan goes past the end
scan_within : (bytes : List ℕ) (from scanned : ℕ) → IsScanned bytes from scanned
    → scan_end bytes scanned ≤ length bytes
scan_within bytes from scanned seen =
    let rest = drop scanned bytes in
    let most : position_or_len is_line_feed rest ≤ length rest = prefix_len-le-length _ _ in
    omega (arith, length-drop {A = ℕ})

-- what the scan went past was looked at
pub scanned_on : (bytes : List ℕ) (from scanned end : ℕ) → IsScanned bytes from scanned
    → end ≡ scan_end bytes scanned → IsScanned bytes from end
scanned_on bytes from scanned end seen is =
    rw is (record {
      begun = omega arith;
      within = scan_within bytes from scanned seen;
      seen = goes_on bytes from scanned seen;
    })

-- the first line feed behind what was scanned is the first of all
first_is : (bytes : List ℕ) (from scanned : ℕ) → IsScanned bytes from scanned
    → position_or_len is_line_feed (drop from bytes) ≡ scan_end bytes scanned - from
first_is bytes from scanned seen =
    let before = goes_on bytes from scanned seen in
    let same : from + (scan_end bytes scanned - from) ≡ scan_end bytes scanned = omega arith in
    position_or_len_is is_line_feed (drop from bytes) (scan_end bytes scanned - from) 0
    (omega (arith, length-drop {A = ℕ}, scan_within bytes from scanned seen))
    (λ k lt. ne_eqb _ _ (rw get_or-drop (before (from + k) (omega arith) (omega arith))))
    (λ lt. rw (get_or-drop, same)
    (rw get_or-drop at (passes_at_first is_line_feed (drop scanned bytes) 0 (omega (arith, length-drop {A = ℕ})))))

-- what was scanned is the front of the stream
front_is : (bytes : List ℕ) (from scanned end : ℕ) → IsScanned bytes from scanned
    → end ≡ scan_end bytes scanned → slice_range bytes from end ≡ front_of (drop from bytes)
front_is bytes from scanned end seen is = rw (is, first_is bytes from scanned seen) refl

-- a scan that went past more bytes than a line may have found one that is too long
pub long_line : (bytes : List ℕ) (from scanned end : ℕ) → IsScanned bytes from scanned
    → end ≡ scan_end bytes scanned → is_too_long (slice_range bytes from end) ≡ true
    → HasLongLine (drop from bytes) (drop from bytes)
long_line bytes from scanned end seen is long =
    let first = rw (front_is bytes from scanned end seen is) at (is_longer _ long) in
    let lasts : (more : List ℕ) → longest_line < length (front_of (drop from bytes ++ more)) =
    λ more. omega (arith, front_grows (drop from bytes) more) in
    record {
      long = first;
      same = refl;
      lasts = lasts;
      lines = λ more. long_first (drop from bytes ++ more) (lasts more);
    }

-- a scan that came to the end within the bytes of a line found none
pub no_line : (bytes : List ℕ) (from scanned end : ℕ) → IsScanned bytes from scanned
    → end ≡ scan_end bytes scanned → end ≡ length bytes → is_too_long (slice_range bytes from end) ≡ false
    → HasNoLine (drop from bytes) (drop from bytes)
no_line bytes from scanned end seen is all short =
    let unended : ¬ Contains (drop from bytes) line_feed =
    λ held.
    let within : from + held.0 < length bytes = omega (arith, length-drop {A = ℕ}, held.1) in
    let here : get_or bytes (from + held.0) line_feed ≡ line_feed = rw get_or-drop at held.2 in
    goes_on bytes from scanned seen (from + held.0) (omega arith) (omega arith)
    (get_or_default bytes (from + held.0) 0 line_feed within ∙ here) in
    let fits : length (drop from bytes) ≤ longest_line = rw (all, take_rest) at (is_no_longer _ short) in
    record { unended = unended; fits = fits; same = refl; lines = no_lines (drop from bytes) unended fits }

-- a stream whose first line feed stands within it has one
holds_end : (xs : List ℕ) → position_or_len is_line_feed xs < length xs → Contains xs line_feed
holds_end xs within = (
  position_or_len is_line_feed xs,
  within,
  eqb-true _ _ (passes_at_first is_line_feed xs line_feed within),
)

-- any other scan found a line
pub first_line : (bytes : List ℕ) (from scanned end : ℕ) → IsScanned bytes from scanned
    → end ≡ scan_end bytes scanned → end < length bytes → is_too_long (slice_range bytes from end) ≡ false
    → IsFirstLine (drop from bytes) (without_return (slice_range bytes from end)) (drop (end + 1) bytes)
first_line bytes from scanned end seen is found short =
    let first = first_is bytes from scanned seen in
    let within : position_or_len is_line_feed (drop from bytes) < length (drop from bytes) =
    omega (arith, length-drop {A = ℕ}) in
    let ended = holds_end (drop from bytes) within in
    let whole = front_is bytes from scanned end seen is in
    let fits = rw whole at (is_no_longer _ short) in
    let front = ap without_return whole in
    let behind : drop (end + 1) bytes ≡ after_first is_line_feed (drop from bytes) =
    rw (first, drop-drop) (ap (λ k. drop k bytes) (omega arith)) in
    record {
      ended = ended;
      fits = fits;
      front = front;
      behind = behind;
      lines = λ more. rw (front, behind) (first_then_rest (drop from bytes) more ended fits);
    }

-- so the stream has one
pub has_line : (bytes : List ℕ) (from scanned end : ℕ) → IsScanned bytes from scanned
    → end ≡ scan_end bytes scanned → end < length bytes → is_too_long (slice_range bytes from end) ≡ false
    → HasLine (drop from bytes)
has_line bytes from scanned end seen is found short = (
  without_return (slice_range bytes from end),
  drop (end + 1) bytes,
  first_line bytes from scanned end seen is found short,
)

-- a stream has a whole line in front, or one that is too long, or no line ends in it
pub line_or_none : (bytes : List ℕ) → HasLine bytes ⊎ (HasLongLine bytes bytes ⊎ ¬ Contains bytes line_feed)
line_or_none bytes =
    let seen : IsScanned bytes 0 0 = record {
      begun = omega arith;
      within = omega arith;
      seen = λ k ge lt. absurd (omega arith);
    } in
    let end = scan_end bytes 0 in
    elim (cases_Bool (is_too_long (slice_range bytes 0 end))) [
      | inl long ↦ inr (inl (long_line bytes 0 0 end seen refl long))
      | inr short ↦ elim (cases_lt end (length bytes)) [
        | inl before ↦ inl (has_line bytes 0 0 end seen refl before short)
        | inr past ↦ (
            let all : end ≡ length bytes = omega (arith, scan_within bytes 0 0 seen) in
            inr (inr (no_line bytes 0 0 end seen refl all short).unended))
      ]
    ]
