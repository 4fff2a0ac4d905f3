-- What is left of a string, byte by byte: where a byte leads, what ends there, and where none goes on.
use Rattle.std.proofs.Common.{◌≡◌, ◌≢◌, ◌⊎◌, ◌↔◌, ℕ, ◌<◌, ◌≤◌, ◌==◌, ◌&&◌, nat_lt, nat_le, Bool, true, false, List, [], ◌∷◌, length, flat_map, if◌then◌else◌, Option, Some, None, inl, inr, ⊎_elim, refl, sym, ap, subst, ◌∙◌, arith}
use Rattle.std.proofs.lemmas.Bool.{and_from, and_parts, eqb-true, false≢true, le-leb, leb-true, lt-ltb, ltb-true, ltb-false}
use Rattle.std.proofs.lemmas.Bool.Decides.{nat_tests}
use Rattle.std.proofs.lemmas.List.{length-append}
use Rattle.std.proofs.lemmas.Option.{cond_some, none-some}
use Rattle.fk_json.specs.String.{IsHexadecimal, IsString, is_letter, meaning, part_text, quote}
use Rattle.fk_json.specs.Tokens.{behind_backslash, behind_byte, continued, digit_then, is_hexadecimal, string_ends, string_step}
use Rattle.fk_json.specs.TokenRests.{EscapeLeft, InsideLeft, StringLeft}
use Rattle.fk_json.specs.declared.string_mode.StringMode.{StringMode}
use Rattle.fk_json.specs.declared.string_mode.StringMode.TheVariants.{Inside, Escape, Four, Three, Two, One, LastByte, TwoBytes, ThreeBytes, NotOverlongOfThree, NoSurrogate, NotOverlongOfFour, NotPastTheLast, Closed}
use Rattle.fk_json.proofs.Characters.{character_stops}
use Rattle.fk_json.proofs.FirstBytes.{if_some, if_none}
use Rattle.fk_json.proofs.Parts.{head_of, tail_of}
use Rattle.fk_json.proofs.Utf8Strings.{after_ascii, cons_ascii}
use Rattle.fk_json.proofs.StringParts.{closed_inside, hexadecimal, inside_closed, inside_plain, letter_is_no_u, no_control, no_hexadecimal}
use Rattle.fk_json.proofs.Escapes.{inside_escape}
use Rattle.fk_json.proofs.LongCharacters.{inside_character}

-- ---- where a byte leads

abbrev Both : StringMode → ℕ → List ℕ → StringMode → Type 0
Both mode b text next = (StringLeft mode (b ∷ text)) ↔ (StringLeft next text)

no_test : (b k : ℕ) → (b == k) ≡ false → b ≢ k
no_test b k h e = grind (arith, nat_tests, h, e)

inside_goes : (b : ℕ) (next : StringMode) (text : List ℕ) → behind_byte b ≡ Some next
    → Both Inside b text next
inside_goes b next text e = elim (if_some (b == 34) Closed next _ e) as (λ _. Both Inside b text next) [
  | inl p ↦
      let is = eqb-true b 34 p.0 in
      subst (Both Inside b text) p.1
      (subst (λ x. Both Inside x text Closed) (sym is) (inside_closed text, closed_inside text))
  | inr p ↦ elim (if_some (b == 92) Escape next _ p.1) as (λ _. Both Inside b text next) [
    | inl q ↦
        let is = eqb-true b 92 q.0 in
        subst (Both Inside b text) q.1
        (subst (λ x. Both Inside x text Escape) (sym is) (inside_escape text))
    | inr q ↦
        let (l, more) = if_none (nat_lt b 32) next _ q.1 in
        elim (if_some (nat_lt b 0x80) Inside next _ more) as (λ _. Both Inside b text next) [
          | inl r ↦
              subst (Both Inside b text) r.1
              (inside_plain b text (ltb-false b 32 l) (ltb-true b 128 r.0)
              (no_test b 34 p.0) (no_test b 92 q.0))
          | inr r ↦ inside_character b next text r.1
        ]
  ]
]

escape_goes : (b : ℕ) (next : StringMode) (text : List ℕ) → behind_backslash b ≡ Some next
    → Both Escape b text next
escape_goes b next text e = elim (if_some (b == 117) Four next _ e) as (λ _. Both Escape b text next) [
  | inl p ↦
      let is = eqb-true b 117 p.0 in
      subst (Both Escape b text) p.1 (
        λ t. ⊎_elim (λ l. absurd (letter_is_no_u b is l.0)) (λ u. u.1) t,
        λ t. inr (is, t),
      )
  | inr p ↦
      let (is, same) = cond_some (is_letter b) Inside next p.1 in
      subst (Both Escape b text) same (
        λ t. ⊎_elim (λ l. l.1) (λ u. absurd (no_test b 117 p.0 u.0)) t,
        λ t. inl (is, t),
      )
]

digit_goes : (b : ℕ) (m next : StringMode) (text : List ℕ) → digit_then b m ≡ Some next
    → (IsHexadecimal b × (StringLeft m text)) ↔ (StringLeft next text)
digit_goes b m next text e =
    let (is, same) = cond_some (is_hexadecimal b) m next e in (
      λ t. subst (λ k. StringLeft k text) same t.1,
      λ t. (hexadecimal b is, subst (λ k. StringLeft k text) (sym same) t),
    )

byte_goes : (b from end : ℕ) (m next : StringMode) (text : List ℕ)
    → continued b from end m ≡ Some next
    → ((from ≤ b) × (b < end) × (StringLeft m text)) ↔ (StringLeft next text)
byte_goes b from end m next text e =
    let (is, same) = cond_some (nat_le from b && nat_lt b end) m next e in
    let within = and_parts _ _ is in (
      λ t. subst (λ k. StringLeft k text) same t.2,
      λ t. (leb-true from b within.0, ltb-true b end within.1, subst (λ k. StringLeft k text) (sym same) t),
    )

-- what is left is what is left behind a byte that leads on
pub string_goes : (mode next : StringMode) (b : ℕ) (text : List ℕ) → string_step mode b ≡ Some next
    → (StringLeft mode (b ∷ text)) ↔ (StringLeft next text)
string_goes Inside next b text e = inside_goes b next text e
string_goes Escape next b text e = escape_goes b next text e
string_goes Four next b text e = digit_goes b Three next text e
string_goes Three next b text e = digit_goes b Two next text e
string_goes Two next b text e = digit_goes b One next text e
string_goes One next b text e = digit_goes b Inside next text e
string_goes LastByte next b text e = byte_goes b 0x80 0xC0 Inside next text e
string_goes TwoBytes next b text e = byte_goes b 0x80 0xC0 LastByte next text e
string_goes ThreeBytes next b text e = byte_goes b 0x80 0xC0 TwoBytes next text e
string_goes NotOverlongOfThree next b text e = byte_goes b 0xA0 0xC0 LastByte next text e
string_goes NoSurrogate next b text e = byte_goes b 0x80 0xA0 LastByte next text e
string_goes NotOverlongOfFour next b text e = byte_goes b 0x90 0xC0 TwoBytes next text e
string_goes NotPastTheLast next b text e = byte_goes b 0x80 0x90 TwoBytes next text e
string_goes Closed next b text e = absurd (none-some next e)

-- ---- where none leads

-- the test fails where the first branch leads on and nothing does
some_none : (t : Bool) (x : StringMode) (others : Option StringMode)
    → (if t then Some x else others) ≡ None → (t ≡ false) × (others ≡ None)
some_none true x others e = absurd (none-some x (sym e))
some_none false x others e = (refl, e)

none_none : (t : Bool) (others : Option StringMode) → (if t then None else others) ≡ None
    → (t ≡ true) ⊎ ((t ≡ false) × (others ≡ None))
none_none true others e = inl refl
none_none false others e = inr (refl, e)

inside_stops : (b : ℕ) (text : List ℕ) → behind_byte b ≡ None → ¬ InsideLeft (b ∷ text)
inside_stops b text e i =
    let (_, e1) = some_none (b == 34) Closed _ e in
    let (_, e2) = some_none (b == 92) Escape _ e1 in
    elim (none_none (nat_lt b 32) _ e2) as (λ _. ⊥) [
      | inl p ↦ no_control b text (ltb-true b 32 p) i
      | inr p ↦
          let (high, e3) = some_none (nat_lt b 0x80) Inside _ p.1 in
          character_stops b text (ltb-false b 128 high) e3 i.3
    ]

escape_stops : (b : ℕ) (text : List ℕ) → behind_backslash b ≡ None → ¬ EscapeLeft (b ∷ text)
escape_stops b text e t =
    let (no_u, e1) = some_none (b == 117) Four _ e in
    let (none, _) = some_none (is_letter b) Inside None e1 in
    ⊎_elim (λ l. false≢true (sym none ∙ l.0)) (λ u. no_test b 117 no_u u.0) t

digit_stops : (b : ℕ) (m : StringMode) (Rest : Type 0) → digit_then b m ≡ None
    → ¬ (IsHexadecimal b × Rest)
digit_stops b m Rest e t =
    let (none, _) = some_none (is_hexadecimal b) m None e in no_hexadecimal b none t.0

byte_stops : (b from end : ℕ) (m : StringMode) (Rest : Type 0) → continued b from end m ≡ None
    → ¬ ((from ≤ b) × (b < end) × Rest)
byte_stops b from end m Rest e t =
    let (none, _) = some_none (nat_le from b && nat_lt b end) m None e in
    false≢true (sym none ∙ and_from _ _ (le-leb from b t.0) (lt-ltb b end t.1))

-- nothing is left that begins with a byte that leads nowhere
pub string_stops : (mode : StringMode) (b : ℕ) (text : List ℕ) → string_step mode b ≡ None
    → ¬ StringLeft mode (b ∷ text)
string_stops Inside b text e t = inside_stops b text e t
string_stops Escape b text e t = escape_stops b text e t
string_stops Four b text e t = digit_stops b Three (StringLeft Three text) e t
string_stops Three b text e t = digit_stops b Two (StringLeft Two text) e t
string_stops Two b text e t = digit_stops b One (StringLeft One text) e t
string_stops One b text e t = digit_stops b Inside (StringLeft Inside text) e t
string_stops LastByte b text e t = byte_stops b 0x80 0xC0 Inside (StringLeft Inside text) e t
string_stops TwoBytes b text e t = byte_stops b 0x80 0xC0 LastByte (StringLeft LastByte text) e t
string_stops ThreeBytes b text e t = byte_stops b 0x80 0xC0 TwoBytes (StringLeft TwoBytes text) e t
string_stops NotOverlongOfThree b text e t = byte_stops b 0xA0 0xC0 LastByte (StringLeft LastByte text) e t
string_stops NoSurrogate b text e t = byte_stops b 0x80 0xA0 LastByte (StringLeft LastByte text) e t
string_stops NotOverlongOfFour b text e t = byte_stops b 0x90 0xC0 TwoBytes (StringLeft TwoBytes text) e t
string_stops NotPastTheLast b text e t = byte_stops b 0x80 0x90 TwoBytes (StringLeft TwoBytes text) e t
string_stops Closed b text e t = absurd (omega (arith, ap length t))

-- ---- where a string ends

pub string_may_end : (mode : StringMode) → string_ends mode ≡ true → StringLeft mode []
string_may_end Closed e = refl
string_may_end Inside e = absurd (false≢true e)
string_may_end Escape e = absurd (false≢true e)
string_may_end Four e = absurd (false≢true e)
string_may_end Three e = absurd (false≢true e)
string_may_end Two e = absurd (false≢true e)
string_may_end One e = absurd (false≢true e)
string_may_end LastByte e = absurd (false≢true e)
string_may_end TwoBytes e = absurd (false≢true e)
string_may_end ThreeBytes e = absurd (false≢true e)
string_may_end NotOverlongOfThree e = absurd (false≢true e)
string_may_end NoSurrogate e = absurd (false≢true e)
string_may_end NotOverlongOfFour e = absurd (false≢true e)
string_may_end NotPastTheLast e = absurd (false≢true e)

inside_unended : ¬ InsideLeft []
inside_unended i =
    absurd (omega (arith, ap length i.2, length-append (flat_map part_text i.0) (quote ∷ [])))

pub string_unended : (mode : StringMode) → string_ends mode ≡ false → ¬ StringLeft mode []
string_unended Closed e t = false≢true (sym e)
string_unended Inside e t = inside_unended t
string_unended Escape e t = t
string_unended Four e t = t
string_unended Three e t = t
string_unended Two e t = t
string_unended One e t = t
string_unended LastByte e t = t
string_unended TwoBytes e t = t
string_unended ThreeBytes e t = t
string_unended NotOverlongOfThree e t = t
string_unended NoSurrogate e t = t
string_unended NotOverlongOfFour e t = t
string_unended NotPastTheLast e t = t

-- ---- where a string begins

pub string_begins : (text : List ℕ)
    → ((value : List ℕ) × IsString (34 ∷ text) value) ↔ StringLeft Inside text
string_begins text = (
  λ (value, s). (s.parts, s.each, tail_of s.whole, after_ascii [] 34 text (omega arith) s.utf8),
  λ i. (
    meaning i.0,
    record {
      parts = i.0;
      each = i.1;
      whole = ap (λ x. 34 ∷ x) i.2;
      utf8 = cons_ascii 34 text (omega arith) i.3;
      means = refl;
    },
  ),
)

pub string_none : (b : ℕ) (text value : List ℕ) → b ≢ 34 → ¬ IsString (b ∷ text) value
string_none b text value n s = n (head_of s.whole)

pub string_empty : (value : List ℕ) → ¬ IsString [] value
string_empty value s = absurd (omega (arith, ap length s.whole))
