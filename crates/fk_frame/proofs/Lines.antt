-- A stream cut into lines, one line after the other.
use Rattle.std.proofs.Common.{◌≡◌, ℕ, ◌<◌, ◌≤◌, List, [], ◌∷◌, ◌++◌, length, arith, refl, ap, sym, ◌∙◌, true, false, inl, inr}
use Rattle.std.specs.List.{All, Contains, before_first, after_first, position_or_len, slice_split}
use Rattle.std.proofs.lemmas.Bool.{cases_lt, ne_eqb, eqb-false}
use Rattle.std.proofs.lemmas.Bool.Decides.{nat_tests}
use Rattle.std.proofs.lemmas.List.{append_assoc, get_or_default, get_or-take, length-take, take_all}
use Rattle.std.proofs.lemmas.List.Folds.{length-prefix_len, prefix_len-append}
use Rattle.std.proofs.lemmas.List.Splits.{slice_split_none, slice_split_at, slice_split_first, length-slice_split}
use Rattle.std.proofs.lemmas.List.Sums.{split_at_first, fails_before_first, passes_at_first, prefix_len-le-length}
use Rattle.fk_frame.specs.declared.line_reader.Line.{Line}
use Rattle.fk_frame.specs.declared.line_reader.Line.TheVariants.{Whole, TooLong}
use Rattle.fk_frame.specs.Bytes.{line_feed, is_line_feed}
use Rattle.fk_frame.specs.Lines.{longest_line, lines_in, lines_of, is_too_long, without_return}
use Rattle.fk_frame.specs.Reading.{front_of}

-- what the test of a line's length says, by that length
fits : (part : List ℕ) → length part ≤ longest_line → is_too_long part ≡ false
fits part short = grind (arith, nat_tests)

exceeds : (part : List ℕ) → longest_line < length part → is_too_long part ≡ true
exceeds part long = grind (arith, nat_tests)

-- a stream without a line feed that fits into a line has no line
pub no_lines : (stream : List ℕ) → ¬ Contains stream line_feed → length stream ≤ longest_line
    → lines_of stream ≡ []
no_lines stream none short =
    let fails : All (λ byte. is_line_feed byte ≡ false) stream =
    λ k d lt. ne_eqb _ _ (λ e. none (k, lt, get_or_default stream k line_feed d lt ∙ e)) in
    ap lines_in (slice_split_none is_line_feed stream fails) ∙ rw (fits stream short) refl

-- the first line feed of a stream that has one stands within it
within : (stream : List ℕ) → Contains stream line_feed
    → position_or_len is_line_feed stream < length stream
within stream held =
    elim (cases_lt held.0 (position_or_len is_line_feed stream)) [
      | inl before ↦ absurd (eqb-false _ _ (fails_before_first is_line_feed stream held.0 line_feed before) held.2)
      | inr past ↦ omega (arith, held.1)
    ]

-- no byte before the first line feed is one
front_fails : (stream : List ℕ) → All (λ byte. is_line_feed byte ≡ false) (before_first is_line_feed stream)
front_fails stream k d lt =
    let first = position_or_len is_line_feed stream in
    let before : k < first = omega (arith, length-take first stream, lt) in
    rw (get_or-take first stream k d before) (fails_before_first is_line_feed stream k d before)

-- the parts of a stream that goes on are its first part and those of what is behind that
parts_first : (stream more : List ℕ) → Contains stream line_feed
    → slice_split is_line_feed (stream ++ more)
    ≡ before_first is_line_feed stream ∷ slice_split is_line_feed (after_first is_line_feed stream ++ more)
parts_first stream more held =
    let split = split_at_first is_line_feed stream line_feed (within stream held) in
    let whole = ap (λ s. s ++ more) split ∙ append_assoc (before_first is_line_feed stream) _ more in
    ap (slice_split is_line_feed) whole
    ∙ slice_split_at is_line_feed _ _ _ (front_fails stream)
    (passes_at_first is_line_feed stream line_feed (within stream held))

-- a part that fits, with another part behind it, is a whole line
lines_in_more : (part : List ℕ) (parts : List (List ℕ)) → 0 < length parts → length part ≤ longest_line
    → lines_in (part ∷ parts) ≡ Whole (without_return part) ∷ lines_in parts
lines_in_more part [] some short = absurd (omega arith)
lines_in_more part (next ∷ parts) some short = rw (fits part short) refl

-- the lines of a stream are its first line and those of what is behind that, however the stream goes on
pub first_then_rest : (stream more : List ℕ) → Contains stream line_feed
    → length (front_of stream) ≤ longest_line
    → lines_of (stream ++ more)
    ≡ Whole (without_return (front_of stream)) ∷ lines_of (after_first is_line_feed stream ++ more)
first_then_rest stream more ended short =
    let next = after_first is_line_feed stream ++ more in
    let behind = slice_split is_line_feed next in
    let some : 0 < length behind = omega (arith, length-slice_split is_line_feed next) in
    ap lines_in (parts_first stream more ended) ∙ lines_in_more (front_of stream) behind some short

-- the first part of a stream is what stands before its first line feed, or all of it
first_part : (stream : List ℕ)
    → (parts : List (List ℕ)) × (slice_split is_line_feed stream ≡ front_of stream ∷ parts)
first_part stream =
    elim (cases_lt (position_or_len is_line_feed stream) (length stream)) [
      | inl before ↦ (
        slice_split is_line_feed (after_first is_line_feed stream),
        slice_split_first is_line_feed stream 0 before,
      )
      | inr past ↦ (
          let fails : All (λ byte. is_line_feed byte ≡ false) stream =
          λ k d lt. fails_before_first is_line_feed stream k d (omega arith) in
          let all : front_of stream ≡ stream = take_all _ _ past in
          ([], slice_split_none is_line_feed stream fails ∙ ap (λ part. part ∷ []) (sym all)))
    ]

-- a first part that is too long is a line that is
begins_long : (part : List ℕ) (parts : List (List ℕ)) → is_too_long part ≡ true
    → (behind : List Line) × (lines_in (part ∷ parts) ≡ TooLong ∷ behind)
begins_long part [] long = ([], rw long refl)
begins_long part (next ∷ parts) long = (lines_in (next ∷ parts), rw long refl)

-- where the first line is too long, it is the first of the lines
pub long_first : (stream : List ℕ) → longest_line < length (front_of stream)
    → (behind : List Line) × (lines_of stream ≡ TooLong ∷ behind)
long_first stream long =
    let first = first_part stream in
    let lines = begins_long (front_of stream) first.0 (exceeds (front_of stream) long) in
    (lines.0, ap lines_in first.1 ∙ lines.1)

-- the first line of a stream that goes on is no shorter
pub front_grows : (stream more : List ℕ) → length (front_of stream) ≤ length (front_of (stream ++ more))
front_grows stream more = grind (arith, nat_tests, length-prefix_len, prefix_len-append, prefix_len-le-length)
