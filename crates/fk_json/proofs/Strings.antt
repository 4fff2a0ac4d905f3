-- A string between quotes is a JSON string, of one value; and the spelling of a value is one of it.
use Rattle.std.proofs.Common.{◌≡◌, ◌≢◌, ◌&&◌, ◌⊎◌, inl, inr, ℕ, ◌/◌, ◌%◌, ◌<◌, ◌≤◌, Bool, true, false, List, [], ◌∷◌, ◌++◌, flat_map, map, if◌then◌else◌, Option, None, Some, Result, Ok, Err, IfOk, IfSome, refl, sym, ap, subst, ◌∙◌, arith, encode_utf8}
use Rattle.std.specs.Char.{digit_char, digit_value}
use Rattle.std.specs.Char.Utf16.{is_high_surrogate, is_low_surrogate, surrogate_pair_char}
use Rattle.std.specs.List.{AllByRecursion}
use Rattle.std.specs.Str.{IsUtf8}
use Rattle.std.proofs.lemmas.Bool.{cases_eq, cases_lt, le-ltb, lt-ltb, ne_eqb}
use Rattle.std.proofs.lemmas.List.{append-nil, append_assoc}
use Rattle.std.proofs.lemmas.Str.{IsUtf8-append, IsUtf8-nil, digit_value-digit_char, encode_ascii}
use Rattle.fk_json.specs.String.{IsPart, IsString, Part, byte, letter, unit, code_unit, is_letter, letter_byte, lone_unit, meaning, part_text, spelled_byte, spelled_control, spelling}
use Rattle.fk_json.specs.Pieces.{IsQuoted, behind_high, piece_of, sense}
use Rattle.fk_json.proofs.Parts.{one_part, tail_of, no_quote_part, front_part}
use Rattle.fk_json.proofs.Utf8Strings.{after_ascii, before_ascii, cons_ascii, means_utf8}

-- ---- what the parts stand for, read piece by piece

alone_unit : (a b c d : ℕ) (ps : List Part) → is_high_surrogate (code_unit a b c d) ≡ false
    → meaning (unit a b c d ∷ ps) ≡ lone_unit (code_unit a b c d) ++ meaning ps
alone_unit a b c d [] e = refl
alone_unit a b c d (byte x ∷ ps) e = refl
alone_unit a b c d (letter x ∷ ps) e = refl
alone_unit a b c d (unit i j k l ∷ ps) e = rw e refl

record Same (ps : List Part) : Type 0 where
  none : sense None (map piece_of ps) ≡ meaning ps
  high : (a b c d : ℕ) → is_high_surrogate (code_unit a b c d) ≡ true
      → sense (Some (code_unit a b c d)) (map piece_of ps) ≡ meaning (unit a b c d ∷ ps)

-- a unit behind no high surrogate
next_unit : (a b c d : ℕ) (ps : List Part) → Same ps → (high : Bool)
    → is_high_surrogate (code_unit a b c d) ≡ high
    → (if high then sense (Some (code_unit a b c d)) (map piece_of ps)
    else lone_unit (code_unit a b c d) ++ sense None (map piece_of ps))
    ≡ meaning (unit a b c d ∷ ps)
next_unit a b c d ps s true e = s.high a b c d e
next_unit a b c d ps s false e = ap (λ x. lone_unit (code_unit a b c d) ++ x) s.none ∙ sym (alone_unit a b c d ps e)

behind : (a b c d i j k l : ℕ) (ps : List Part) → Same ps → (pair : Bool)
    → behind_high (if pair then Some (surrogate_pair_char (code_unit a b c d) (code_unit i j k l)) else None)
    (Some (code_unit a b c d)) (code_unit i j k l) (sense None (map piece_of ps)) (sense (Some (code_unit i j k l)) (map piece_of ps))
    ≡ (if pair then encode_utf8 (surrogate_pair_char (code_unit a b c d) (code_unit i j k l)) ++ meaning ps
    else lone_unit (code_unit a b c d) ++ meaning (unit i j k l ∷ ps))
behind a b c d i j k l ps s true = ap (λ x. encode_utf8 (surrogate_pair_char (code_unit a b c d) (code_unit i j k l)) ++ x) s.none
behind a b c d i j k l ps s false =
    ap (λ x. lone_unit (code_unit a b c d) ++ x) (next_unit i j k l ps s _ refl)

same : (ps : List Part) → Same ps
same [] = record { none = refl; high = λ a b c d e. sym (append-nil _) }
same (byte x ∷ ps) = record {
  none = ap (λ l. x ∷ l) (same ps).none;
  high = λ a b c d e. ap (λ l. lone_unit (code_unit a b c d) ++ x ∷ l) (same ps).none;
}
same (letter x ∷ ps) = record {
  none = ap (λ l. letter_byte x ∷ l) (same ps).none;
  high = λ a b c d e. ap (λ l. lone_unit (code_unit a b c d) ++ letter_byte x ∷ l) (same ps).none;
}
same (unit i j k l ∷ ps) = record {
  none = next_unit i j k l ps (same ps) _ refl;
  high = λ a b c d e. behind a b c d i j k l ps (same ps) (is_high_surrogate (code_unit a b c d) && is_low_surrogate (code_unit i j k l));
}

-- ---- a JSON string

string_from_quoted : (text value : List ℕ) → IsUtf8 text → IsQuoted text value → IsString text value
string_from_quoted text value utf8 (inside, e, s) = record {
  parts = s.parts;
  each = s.each;
  whole = e ∙ ap (λ x. 34 ∷ x) s.whole;
  utf8 = utf8;
  means = s.means ∙ (same s.parts).none;
}

quoted_from_string : (text value : List ℕ) → IsString text value → IsQuoted text value
quoted_from_string text value is = (
  _,
  is.whole,
  record {
    parts = is.parts;
    each = is.each;
    whole = refl;
    means = is.means ∙ sym (same is.parts).none;
  },
)

pub string_utf8 : (text value : List ℕ) → IsString text value → IsUtf8 value
string_utf8 text value is =
    let u : IsUtf8 (34 ∷ flat_map part_text is.parts ++ 34 ∷ []) = subst IsUtf8 is.whole is.utf8 in
    subst IsUtf8 (sym is.means) (means_utf8 [] is.parts is.each (after_ascii [] 34 _ (omega arith) u))

-- ---- one text, one value

one_list : (ps qs : List Part) → AllByRecursion IsPart ps → AllByRecursion IsPart qs
    → flat_map part_text ps ++ 34 ∷ [] ≡ flat_map part_text qs ++ 34 ∷ [] → ps ≡ qs
one_list [] [] f g e = refl
one_list [] (q ∷ qs) f g e = absurd (no_quote_part q (flat_map part_text qs ++ 34 ∷ []) [] g.0 (sym (front_part q qs) ∙ sym e))
one_list (p ∷ ps) [] f g e = absurd (no_quote_part p (flat_map part_text ps ++ 34 ∷ []) [] f.0 (sym (front_part p ps) ∙ e))
one_list (p ∷ ps) (q ∷ qs) f g e =
    let (s, rest) = one_part p q _ _ f.0 g.0 (sym (front_part p ps) ∙ e ∙ front_part q qs) in
    let more = one_list ps qs f.1 g.1 rest in
    rw (s, more) refl

pub one_value : (text v w : List ℕ) → IsString text v → IsString text w → v ≡ w
one_value text v w a b =
    let is = one_list a.parts b.parts a.each b.each (tail_of (sym a.whole ∙ b.whole)) in
    a.means ∙ ap meaning is ∙ sym b.means

-- ---- the spelling

-- the part that is written for a byte
record Spelled (b : ℕ) : Type 0 where
  part : Part
  text : part_text part ≡ spelled_byte b
  fits : IsPart part
  means : (ps : List Part) → meaning (part ∷ ps) ≡ b ∷ meaning ps
  ascii : (spelled_byte b ≡ b ∷ []) ⊎ ((b < 128) × ((rest : List ℕ) → IsUtf8 rest → IsUtf8 (spelled_byte b ++ rest)))

escaped : (b l : ℕ) → spelled_byte b ≡ 92 ∷ l ∷ [] → is_letter l ≡ true → letter_byte l ≡ b
    → b < 128 → l < 128 → Spelled b
escaped b l text is means small low = record {
  part = letter l;
  text = sym text;
  fits = is;
  means = λ ps. ap (λ x. x ∷ meaning ps) means;
  ascii = inr (small, λ rest u. subst (λ x. IsUtf8 (x ++ rest)) (sym text) (cons_ascii 92 (l ∷ rest) (omega arith) (cons_ascii l rest low u)));
}

-- a byte that has no letter
abbrev Bare : ℕ → Type 0
Bare b = (b ≢ 34) × (b ≢ 92) × (b ≢ 8) × (b ≢ 9) × (b ≢ 10) × (b ≢ 12) × (b ≢ 13)

small_code : (b : ℕ) → b < 32 → code_unit 48 48 (digit_char (b / 16)) (digit_char (b % 16)) ≡ b
small_code b l =
    rw (digit_value-digit_char (b / 16) (omega arith), digit_value-digit_char (b % 16) (omega arith)) (omega arith)

not_high : (b : ℕ) → b < 32 → is_high_surrogate b ≡ false
not_high b l = grind arith

not_low : (b : ℕ) → b < 32 → is_low_surrogate b ≡ false
not_low b l = grind arith

small_lone : (u b : ℕ) → u ≡ b → b < 32 → lone_unit u ≡ b ∷ []
small_lone u b e l =
    rw (e, not_high b l, not_low b l) (encode_ascii b (omega arith))

is_hexadecimal : (d : ℕ) → d < 16 → digit_value (digit_char d) < 16
is_hexadecimal d l = rw (digit_value-digit_char d (omega arith)) l

digit_small : (d : ℕ) → d < 16 → digit_char d < 128
digit_small d l = grind arith

control_text : (b : ℕ) → b < 32 → Bare b → spelled_byte b ≡ spelled_control b
control_text b l bare =
    rw (ne_eqb b 34 bare.0, ne_eqb b 92 bare.1, ne_eqb b 8 bare.2, ne_eqb b 9 bare.3, ne_eqb b 10 bare.4, ne_eqb b 12 bare.5, ne_eqb b 13 bare.6, lt-ltb b 32 l) refl

plain_text : (b : ℕ) → 32 ≤ b → Bare b → spelled_byte b ≡ b ∷ []
plain_text b l bare =
    rw (ne_eqb b 34 bare.0, ne_eqb b 92 bare.1, ne_eqb b 8 bare.2, ne_eqb b 9 bare.3, ne_eqb b 10 bare.4, ne_eqb b 12 bare.5, ne_eqb b 13 bare.6, le-ltb b 32 l) refl

control : (b : ℕ) → b < 32 → Bare b → Spelled b
control b l bare =
    let high : b / 16 < 16 = omega arith in
    let low : b % 16 < 16 = omega arith in
    let e = small_code b l in
    record {
      part = unit 48 48 (digit_char (b / 16)) (digit_char (b % 16));
      text = sym (control_text b l bare);
      fits = (omega arith, omega arith, is_hexadecimal (b / 16) high, is_hexadecimal (b % 16) low);
      means = λ ps.
          alone_unit 48 48 (digit_char (b / 16)) (digit_char (b % 16)) ps (rw e (not_high b l))
          ∙ ap (λ x. x ++ meaning ps) (small_lone _ b e l);
      ascii = inr (
        omega arith,
        λ rest u. subst (λ x. IsUtf8 (x ++ rest)) (sym (control_text b l bare))
            (cons_ascii 92 _ (omega arith) (cons_ascii 117 _ (omega arith) (cons_ascii 48 _ (omega arith) (cons_ascii 48 _ (omega arith)
            (cons_ascii _ _ (digit_small (b / 16) high) (cons_ascii _ rest (digit_small (b % 16) low) u)))))),
      );
    }

plain : (b : ℕ) → 32 ≤ b → Bare b → Spelled b
plain b l bare = record {
  part = byte b;
  text = sym (plain_text b l bare);
  fits = (l, bare.0, bare.1);
  means = λ ps. refl;
  ascii = inl (plain_text b l bare);
}

bare_spelled : (b : ℕ) → Bare b → Spelled b
bare_spelled b bare = elim (cases_lt b 32) [ inl l ↦ control b l bare | inr l ↦ plain b l bare ]

-- a byte that is this one is spelled as it is
or_else : (b c : ℕ) → Spelled c → (b ≢ c → Spelled b) → Spelled b
or_else b c this other = elim (cases_eq b c) [ inl e ↦ subst Spelled (sym e) this | inr differ ↦ other differ ]

spelled : (b : ℕ) → Spelled b
spelled b =
    or_else b 34 (escaped 34 34 refl refl refl (omega arith) (omega arith)) (λ n34.
    or_else b 92 (escaped 92 92 refl refl refl (omega arith) (omega arith)) (λ n92.
    or_else b 8 (escaped 8 98 refl refl refl (omega arith) (omega arith)) (λ n8.
    or_else b 9 (escaped 9 116 refl refl refl (omega arith) (omega arith)) (λ n9.
    or_else b 10 (escaped 10 110 refl refl refl (omega arith) (omega arith)) (λ n10.
    or_else b 12 (escaped 12 102 refl refl refl (omega arith) (omega arith)) (λ n12.
    or_else b 13 (escaped 13 114 refl refl refl (omega arith) (omega arith)) (λ n13.
    bare_spelled b (n34, n92, n8, n9, n10, n12, n13))))))))

-- the parts that are written for a value
abbrev parts_of : List ℕ → List Part
parts_of [] = []
parts_of (b ∷ bs) = (spelled b).part ∷ parts_of bs

parts_text : (v : List ℕ) → flat_map part_text (parts_of v) ≡ flat_map spelled_byte v
parts_text [] = refl
parts_text (b ∷ bs) = rw ((spelled b).text, parts_text bs) refl

parts_fit : (v : List ℕ) → AllByRecursion IsPart (parts_of v)
parts_fit [] = tt
parts_fit (b ∷ bs) = ((spelled b).fits, parts_fit bs)

parts_mean : (v : List ℕ) → meaning (parts_of v) ≡ v
parts_mean [] = refl
parts_mean (b ∷ bs) = (spelled b).means (parts_of bs) ∙ ap (λ l. b ∷ l) (parts_mean bs)

spelling_utf8 : (front v : List ℕ) → IsUtf8 (front ++ v) → IsUtf8 (front ++ (flat_map spelled_byte v ++ 34 ∷ []))
spelling_utf8 front [] u = IsUtf8-append front (34 ∷ []) (subst IsUtf8 (append-nil front) u) (cons_ascii 34 [] (omega arith) IsUtf8-nil)
spelling_utf8 front (b ∷ bs) u =
    elim (spelled b).ascii [
      | inl e ↦
          let moved = spelling_utf8 (front ++ b ∷ []) bs (subst IsUtf8 (sym (append_assoc front (b ∷ []) bs)) u) in
          subst (λ x. IsUtf8 (front ++ ((x ++ flat_map spelled_byte bs) ++ 34 ∷ []))) (sym e)
          (subst IsUtf8 (append_assoc front (b ∷ []) (flat_map spelled_byte bs ++ 34 ∷ [])) moved)
      | inr small ↦
          let more = spelling_utf8 [] bs (after_ascii front b bs small.0 u) in
          IsUtf8-append front _ (before_ascii front b bs small.0 u)
          (subst IsUtf8 (sym (append_assoc (spelled_byte b) (flat_map spelled_byte bs) (34 ∷ []))) (small.1 _ more))
    ]

pub spelling_string : (text value : List ℕ) → IsUtf8 value → text ≡ spelling value → IsString text value
spelling_string text value u e = record {
  parts = parts_of value;
  each = parts_fit value;
  whole = e ∙ ap (λ x. 34 ∷ x ++ 34 ∷ []) (sym (parts_text value));
  utf8 = subst IsUtf8 (sym e) (cons_ascii 34 _ (omega arith) (spelling_utf8 [] value u));
  means = sym (parts_mean value);
}

-- ---- what is found

pub finds_string : {E : Type 0} (text : List ℕ) (r : Result (Option (List ℕ)) E) → IsUtf8 text
    → IfOk r (λ found. IfSome found (λ value. IsQuoted text value))
    → IfOk r (λ found. IfSome found (λ value. IsString text value))
finds_string text (Ok None) u h = tt
finds_string text (Ok (Some value)) u h = string_from_quoted text value u h
finds_string text (Err x) u h = tt

pub finds_utf8 : {E : Type 0} (text : List ℕ) (r : Result (Option (List ℕ)) E) → IsUtf8 text
    → IfOk r (λ found. IfSome found (λ value. IsQuoted text value))
    → IfOk r (λ found. IfSome found (λ value. IsUtf8 value))
finds_utf8 text (Ok None) u h = tt
finds_utf8 text (Ok (Some value)) u h = string_utf8 text value (string_from_quoted text value u h)
finds_utf8 text (Err x) u h = tt

pub no_string_quoted : (text value : List ℕ) → ¬ IsQuoted text value → ¬ IsString text value
no_string_quoted text value none is = none (quoted_from_string text value is)

pub finds_again : {E : Type 0} (text : List ℕ) (r : Result (Option (List ℕ)) E) (value : List ℕ)
    → IsUtf8 value → text ≡ spelling value
    → IfOk r (λ found. IfSome found (λ w. IsQuoted text w))
    → (r ≡ Ok None → (w : List ℕ) → ¬ IsQuoted text w)
    → IfOk r (λ found. found ≡ Some value)
finds_again text (Ok None) value u e h none =
    absurd (none refl value (quoted_from_string text value (spelling_string text value u e)))
finds_again text (Ok (Some w)) value u e h none =
    let is = spelling_string text value u e in
    ap Some (one_value text w value (string_from_quoted text w is.utf8 h) is)
finds_again text (Err x) value u e h none = tt
