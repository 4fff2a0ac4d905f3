-- UTF-8 is bytes, and so are what a string stands for and what is joined of bytes.
use Rattle.std.proofs.Common.{◌≡◌, inl, inr, ℕ, ◌+◌, ◌/◌, ◌-◌, ◌<◌, Bool, true, false, cond, ltb, List, [], ◌∷◌, drop, slice_range, refl, sym, subst, arith}
use Rattle.std.proofs.lemmas.Bool.{and_parts, ltb-true}
use Rattle.std.proofs.lemmas.List.Elements.{All-append, All-cons, All-drop, All-from_recursion, All-head, All-nil, All-tail, All-take}
use Rattle.std.specs.Prelude.{All}
use Rattle.std.specs.List.{AllByRecursion, join_with_byte}
use Rattle.std.specs.Str.{IsUtf8, encode_utf8_all}
use lib.Utf8.{encode, next, scalar, scalars, scalar_cases}
use Rattle.fk_json.specs.String.{IsString}
use Rattle.fk_json.proofs.Utf8Strings.{after_ascii, means_utf8}
use Rattle.fk_job.specs.Spellings.{AreBytes}

-- ---- UTF-8

abbrev IsByte : ℕ → Type 0
IsByte b = b < 256

-- the same, item by item
abbrev Each : List ℕ → Type 0
Each text = AllByRecursion IsByte text

follows : (n : ℕ) → next n < 256
follows n = omega arith

scalar_limit : (c : ℕ) → scalar c ≡ true → c < 1114112
scalar_limit c is = elim (scalar_cases c is) [ inl low ↦ omega (arith, low) | inr high ↦ high.1 ]

by_three : (c : ℕ) → c < 1114112 → (short : Bool) → ltb c 65536 ≡ short
    → Each (cond short ((224 + c / 4096) ∷ next (c / 64) ∷ next c ∷ [])
    ((240 + c / 262144) ∷ next (c / 4096) ∷ next (c / 64) ∷ next c ∷ []))
by_three c l true is =
    let low : c < 65536 = ltb-true c 65536 is in (omega (arith, low), (follows (c / 64), (follows c, tt)))
by_three c l false is = (omega (arith, l), (follows (c / 4096), (follows (c / 64), (follows c, tt))))

by_two : (c : ℕ) → c < 1114112 → (short : Bool) → ltb c 2048 ≡ short
    → Each (cond short ((192 + c / 64) ∷ next c ∷ [])
    (cond (ltb c 65536) ((224 + c / 4096) ∷ next (c / 64) ∷ next c ∷ [])
    ((240 + c / 262144) ∷ next (c / 4096) ∷ next (c / 64) ∷ next c ∷ [])))
by_two c l true is = let low : c < 2048 = ltb-true c 2048 is in (omega (arith, low), (follows c, tt))
by_two c l false is = by_three c l (ltb c 65536) refl

by_one : (c : ℕ) → c < 1114112 → (short : Bool) → ltb c 128 ≡ short
    → Each (cond short (c ∷ []) (cond (ltb c 2048) ((192 + c / 64) ∷ next c ∷ [])
    (cond (ltb c 65536) ((224 + c / 4096) ∷ next (c / 64) ∷ next c ∷ [])
    ((240 + c / 262144) ∷ next (c / 4096) ∷ next (c / 64) ∷ next c ∷ []))))
by_one c l true is = let low : c < 128 = ltb-true c 128 is in (omega (arith, low), tt)
by_one c l false is = by_two c l (ltb c 2048) refl

of_character : (c : ℕ) → scalar c ≡ true → AreBytes (encode c)
unfolding encode
of_character c is = All-from_recursion IsByte (encode c) (by_one c (scalar_limit c is) (ltb c 128) refl)

of_characters : (cs : List ℕ) → scalars cs ≡ true → AreBytes (encode_utf8_all cs)
of_characters [] are = All-nil IsByte
of_characters (c ∷ cs) are =
    let (first, others) = and_parts (scalar c) (scalars cs) are in
    All-append IsByte (encode c) (encode_utf8_all cs) (of_character c first) (of_characters cs others)

pub utf8_bytes : (text : List ℕ) → IsUtf8 text → AreBytes text
utf8_bytes text (cs, (are, whole)) = subst AreBytes whole (of_characters cs are)

-- what a string stands for
pub string_bytes : (text value : List ℕ) → IsString text value → AreBytes value
string_bytes text value is =
    let inside = after_ascii [] 34 _ (omega arith) (subst IsUtf8 is.whole is.utf8) in
    subst AreBytes (sym is.means) (utf8_bytes _ (means_utf8 [] is.parts is.each inside))

-- ---- pieces of a text, and what is joined of them

pub range_bytes : (text : List ℕ) (from to : ℕ) → AreBytes text → AreBytes (slice_range text from to)
range_bytes text from to are =
    All-take IsByte (to - from) (drop from text) (All-drop IsByte from text are)

pub joined_bytes : (c : ℕ) (pieces : List (List ℕ)) → c < 256 → All AreBytes pieces
    → AreBytes (join_with_byte c pieces)
joined_bytes c [] l are = All-nil IsByte
joined_bytes c (piece ∷ []) l are = All-head AreBytes piece [] are
joined_bytes c (piece ∷ next ∷ pieces) l are =
    All-append IsByte piece (c ∷ join_with_byte c (next ∷ pieces))
    (All-head AreBytes piece (next ∷ pieces) are)
    (All-cons IsByte c (join_with_byte c (next ∷ pieces)) l (joined_bytes c (next ∷ pieces) l (All-tail AreBytes piece (next ∷ pieces) are)))
