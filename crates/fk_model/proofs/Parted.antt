-- The parts of a text that is cut, and the items between brackets: how many they are, and how long.
use Rattle.std.proofs.Common.{inl, inr, ℕ, zero, suc, ◌+◌, ◌-◌, ◌<◌, ◌≤◌, Bool, true, false, cond, List, [], ◌∷◌, ◌++◌, length, drop, slice_range, codes, ap, arith}
use Rattle.std.specs.Prelude.{All}
use Rattle.std.specs.List.{after_first, onto_first, position_or_len, slice_split}
use Rattle.std.proofs.lemmas.List.{length-append, length-drop, length-take}
use Rattle.std.proofs.lemmas.List.Elements.{All-cons, All-drop, All-head, All-nil, All-tail, All-weaker}
use Rattle.fk_json.specs.declared.span.Span.{Span}
use Rattle.fk_json.specs.Json.{AreItems, AreJoined, IsArrayText, IsElement, IsValue}
use Rattle.fk_job.specs.Spellings.{AreBytes}
use Rattle.fk_job.proofs.Bytes.{range_bytes}

-- bytes, at most so many
pub record IsUpTo (bound : ℕ) (text : List ℕ) : Type 0 where
  pub bytes : AreBytes text
  pub short : length text ≤ bound

-- ---- a part of a text

pub behind_up_to : (test : ℕ → Bool) (bound : ℕ) (text : List ℕ) → IsUpTo bound text
    → IsUpTo bound (after_first test text)
behind_up_to test bound text is = record {
  bytes = All-drop (λ b. b < 256) (position_or_len test text + 1) text is.bytes;
  short = omega (arith, is.short, length-drop (position_or_len test text + 1) text);
}

pub range_up_to : (bound from to : ℕ) (text : List ℕ) → IsUpTo bound text
    → IsUpTo bound (slice_range text from to)
range_up_to bound from to text is = record {
  bytes = range_bytes text from to is.bytes;
  short = omega (arith, is.short, length-take (to - from) (drop from text), length-drop from text);
}

-- ---- the parts of a text

onto : (x bound : ℕ) (parts : List (List ℕ)) → x < 256 → All (IsUpTo bound) parts
    → All (IsUpTo (bound + 1)) (onto_first x parts)
onto x bound [] l are =
    All-cons (IsUpTo (bound + 1)) (x ∷ []) []
    (record {
      bytes = All-cons (λ b. b < 256) x [] l (All-nil (λ b. b < 256));
      short = omega arith;
    }) (All-nil (IsUpTo (bound + 1)))
onto x bound (part ∷ parts) l are =
    let first = All-head (IsUpTo bound) part parts are in
    All-cons (IsUpTo (bound + 1)) (x ∷ part) parts
    (record {
      bytes = All-cons (λ b. b < 256) x part l first.bytes;
      short = omega (arith, first.short);
    })
    (All-weaker (IsUpTo bound) (IsUpTo (bound + 1))
    (λ text is. record { bytes = is.bytes; short = omega (arith, is.short) }) parts
    (All-tail (IsUpTo bound) part parts are))

split_step : (x bound : ℕ) (parts : List (List ℕ)) (cuts : Bool) → x < 256 → All (IsUpTo bound) parts
    → All (IsUpTo (bound + 1)) (cond cuts ([] ∷ parts) (onto_first x parts))
split_step x bound parts true l are =
    All-cons (IsUpTo (bound + 1)) [] parts
    (record { bytes = All-nil (λ b. b < 256); short = omega arith })
    (All-weaker (IsUpTo bound) (IsUpTo (bound + 1))
    (λ text is. record { bytes = is.bytes; short = omega (arith, is.short) }) parts are)
split_step x bound parts false l are = onto x bound parts l are

split_all : (test : ℕ → Bool) (text : List ℕ) → AreBytes text
    → All (IsUpTo (length text)) (slice_split test text)
split_all test [] are =
    All-cons (IsUpTo 0) [] [] (record { bytes = are; short = omega arith }) (All-nil (IsUpTo 0))
split_all test (x ∷ text) are =
    All-weaker (IsUpTo (length text + 1)) (IsUpTo (suc (length text)))
    (λ part is. record { bytes = is.bytes; short = omega (arith, is.short) })
    (slice_split test (x ∷ text))
    (split_step x (length text) (slice_split test text) (test x) (All-head (λ b. b < 256) x text are)
    (split_all test text (All-tail (λ b. b < 256) x text are)))

-- no part of a text is longer than the text
pub split_up_to : (test : ℕ → Bool) (bound : ℕ) (text : List ℕ) → IsUpTo bound text
    → All (IsUpTo bound) (slice_split test text)
split_up_to test bound text is =
    All-weaker (IsUpTo (length text)) (IsUpTo bound)
    (λ part short. record { bytes = short.bytes; short = omega (arith, is.short, short.short) })
    (slice_split test text) (split_all test text is.bytes)

-- ---- the elements of an array

joined_count : {I : Type 0} (IsItem : ℕ → List ℕ → I → Type 0) (at : ℕ) (text : List ℕ) (items : List I)
    → AreJoined IsItem at text items → length items ≤ length text + 1
joined_count IsItem at text [] are = absurd are
joined_count IsItem at text (item ∷ []) are = omega arith
joined_count IsItem at text (item ∷ next ∷ items) (piece, rest, is, are, whole) =
    omega (
      arith,
      joined_count IsItem (at + length piece + 1) rest (next ∷ items) are,
      ap length whole,
      length-append (piece ++ codes ",") rest,
      length-append piece (codes ","),
    )

items_count : {I : Type 0} (IsItem : ℕ → List ℕ → I → Type 0) (at : ℕ) (text : List ℕ) (items : List I)
    → AreItems IsItem at text items → length items ≤ length text + 1
items_count IsItem at text items (inl none) = omega (arith, ap length none.0)
items_count IsItem at text items (inr are) = joined_count IsItem at text items are

-- an array has no more elements than bytes
pub elements_count : (levels : ℕ) (text : List ℕ) (elements : List Span) → IsArrayText levels text elements
    → length elements ≤ length text
elements_count zero text elements is = absurd is
elements_count (suc levels) text elements is =
    let (inner, items, part) = is.shaped in
    omega (
      arith,
      items_count (IsElement (IsValue levels)) (length is.before + 1) inner elements items,
      ap length is.whole,
      ap length part,
      length-append (is.before ++ is.part) is.after,
      length-append is.before is.part,
      length-append (codes "[" ++ inner) (codes "]"),
      length-append (codes "[") inner,
    )
