-- The part at the front of a string's rest, and that no text has two such parts.
use Rattle.std.proofs.Common.{◌≡◌, ◌≢◌, ℕ, ◌-◌, ◌≤◌, Bool, true, false, List, [], ◌∷◌, ◌++◌, length, take, drop, get_or, flat_map, map, Option, None, Some, Result, Ok, Err, IfOk, IfSome, refl, sym, ap, subst, ◌∙◌, arith}
use Rattle.std.proofs.Math.Seq.{take-length}
use Rattle.std.proofs.lemmas.Bool.{false≢true}
use Rattle.std.proofs.lemmas.List.{append_assoc}
use Rattle.std.specs.List.{AllByRecursion}
use Rattle.std.specs.Str.{bytes_eq}
use Rattle.std.proofs.lemmas.Slice.Eq.{bytes_eq-Decides}
use Rattle.fk_json.specs.String.{Part, byte, letter, unit, IsHexadecimal, IsPart, code_unit, is_letter, letter_byte, part_text}
use Rattle.fk_json.specs.Pieces.{IsQuoted, NoPart, StandsFor, Takes, piece_of, sense}
use Rattle.fk_json.specs.declared.piece.Piece.{Piece}
use Rattle.fk_json.specs.declared.piece.Piece.TheVariants.{Byte, Unit}

pub takes_letter : (rest : List ℕ) (brought : ℕ) → 1 ≤ length rest
    → (is_letter (get_or rest 0 0) ≡ true) × (brought ≡ letter_byte (get_or rest 0 0))
    → Takes (92 ∷ rest) (Byte brought) (take (length rest - 1) (drop 1 rest))
takes_letter [] brought l is = absurd (omega arith)
takes_letter (b ∷ bs) brought l is =
    let e : length (b ∷ bs) - 1 ≡ length bs = omega arith in
    record { part = letter b; fits = is.0; whole = rw e (ap (λ x. 92 ∷ b ∷ x) (sym (take-length bs))); brings = ap Byte is.1 }

pub takes_unit : (digits : List ℕ) (brought : ℕ) → 4 ≤ length digits
    → (IsHexadecimal (get_or digits 0 0) × IsHexadecimal (get_or digits 1 0) × IsHexadecimal (get_or digits 2 0) × IsHexadecimal (get_or digits 3 0))
    × (brought ≡ code_unit (get_or digits 0 0) (get_or digits 1 0) (get_or digits 2 0) (get_or digits 3 0))
    → Takes (92 ∷ 117 ∷ digits) (Unit brought) (take (length digits - 4) (drop 4 digits))
takes_unit [] brought l is = absurd (omega arith)
takes_unit (a ∷ []) brought l is = absurd (omega arith)
takes_unit (a ∷ b ∷ []) brought l is = absurd (omega arith)
takes_unit (a ∷ b ∷ c ∷ []) brought l is = absurd (omega arith)
takes_unit (a ∷ b ∷ c ∷ d ∷ bs) brought l is =
    let e : length (a ∷ b ∷ c ∷ d ∷ bs) - 4 ≡ length bs = omega arith in
    record { part = unit a b c d; fits = is.0; whole = rw e (ap (λ x. 92 ∷ 117 ∷ a ∷ b ∷ c ∷ d ∷ x) (sym (take-length bs))); brings = ap Unit is.1 }

-- ---- one text, one part

pub head_of : {a b : ℕ} {xs ys : List ℕ} → a ∷ xs ≡ b ∷ ys → a ≡ b
head_of e = ap (λ l. get_or l 0 0) e

pub tail_of : {a b : ℕ} {xs ys : List ℕ} → a ∷ xs ≡ b ∷ ys → xs ≡ ys
tail_of e = ap (λ l. drop 1 l) e

units : {a b c d i j k l : ℕ} → a ≡ i → b ≡ j → c ≡ k → d ≡ l → unit a b c d ≡ unit i j k l
units e f g h = rw (e, f, g, h) refl

letter_no_u : (l : ℕ) → is_letter l ≡ true → l ≢ 117
letter_no_u l is e = false≢true (subst (λ x. is_letter x ≡ true) e is)

pub one_part : (p q : Part) (x y : List ℕ) → IsPart p → IsPart q
    → part_text p ++ x ≡ part_text q ++ y → (p ≡ q) × (x ≡ y)
one_part (byte b) (byte c) x y f g e = (ap byte (head_of e), tail_of e)
one_part (byte b) (letter m) x y f g e = absurd (f.2 (head_of e))
one_part (byte b) (unit i j k l) x y f g e = absurd (f.2 (head_of e))
one_part (letter n) (byte c) x y f g e = absurd (g.2 (sym (head_of e)))
one_part (letter n) (letter m) x y f g e = (ap letter (head_of (tail_of e)), tail_of (tail_of e))
one_part (letter n) (unit i j k l) x y f g e = absurd (letter_no_u n f (head_of (tail_of e)))
one_part (unit a b c d) (byte z) x y f g e = absurd (g.2 (sym (head_of e)))
one_part (unit a b c d) (letter m) x y f g e = absurd (letter_no_u m g (sym (head_of (tail_of e))))
one_part (unit a b c d) (unit i j k l) x y f g e =
    let e1 = tail_of (tail_of e) in
    let e2 = tail_of e1 in
    let e3 = tail_of e2 in
    let e4 = tail_of e3 in
    (units (head_of e1) (head_of e2) (head_of e3) (head_of e4), tail_of e4)

-- a part doesn't begin with a quote
pub no_quote_part : (p : Part) (x y : List ℕ) → IsPart p → ¬ (part_text p ++ x ≡ 34 ∷ y)
no_quote_part (byte b) x y f e = f.1 (head_of e)
no_quote_part (letter n) x y f e = absurd (omega (arith, head_of e))
no_quote_part (unit a b c d) x y f e = absurd (omega (arith, head_of e))

-- ---- reading on

abbrev pub Onward : List ℕ → Option ℕ → List ℕ → List ℕ → Type 0
Onward rest high value inside = (v : List ℕ) → StandsFor high rest v → StandsFor None inside (value ++ v)

abbrev pub Back : List ℕ → Option ℕ → List ℕ → List ℕ → Type 0
Back rest high value inside =
    (w : List ℕ) → StandsFor None inside w → (v : List ℕ) × StandsFor high rest v × (w ≡ value ++ v)

-- what is done and what is left are the whole
pub record Reading (rest : List ℕ) (high : Option ℕ) (value inside : List ℕ) : Type 0 where
  pub onward : Onward rest high value inside
  pub back : Back rest high value inside

pub begins : (inside : List ℕ) → Reading inside None [] inside
begins inside = record { onward = λ v s. s; back = λ w s. (w, s, refl) }

pub front_part : (p : Part) (ps : List Part)
    → flat_map part_text (p ∷ ps) ++ 34 ∷ [] ≡ part_text p ++ (flat_map part_text ps ++ 34 ∷ [])
front_part p ps = append_assoc (part_text p) (flat_map part_text ps) (34 ∷ [])

-- the sense of pieces is kept by a step
abbrev pub Keeps : List ℕ → Option ℕ → List ℕ → Option ℕ → Piece → Type 0
Keeps new left old high piece =
    (pieces : List Piece) → new ++ sense left pieces ≡ old ++ sense high (piece ∷ pieces)

-- what stands behind the part at the front
behind : (rest after : List ℕ) (high : Option ℕ) (piece : Piece) (v : List ℕ) → Takes rest piece after
    → (parts : List Part) → AllByRecursion IsPart parts → rest ≡ flat_map part_text parts ++ 34 ∷ []
    → v ≡ sense high (map piece_of parts)
    → (ps : List Part) × AllByRecursion IsPart ps × (after ≡ flat_map part_text ps ++ 34 ∷ [])
    × (v ≡ sense high (piece ∷ map piece_of ps))
behind rest after high piece v takes [] each whole means =
    absurd (no_quote_part takes.part after [] takes.fits (sym takes.whole ∙ whole))
behind rest after high piece v takes (p ∷ ps) each whole means =
    let same = one_part takes.part p after (flat_map part_text ps ++ 34 ∷ []) takes.fits each.0
    (sym takes.whole ∙ whole ∙ front_part p ps) in
    (ps, each.1, same.1, means ∙ ap (λ x. sense high (x ∷ map piece_of ps)) (ap piece_of (sym same.0) ∙ sym takes.brings))

pub goes_on : (rest after : List ℕ) (high left : Option ℕ) (value new inside : List ℕ) (piece : Piece)
    → Takes rest piece after → Keeps new left value high piece
    → Reading rest high value inside → Reading after left new inside
goes_on rest after high left value new inside piece takes keeps reading = record {
  onward = λ v s.
      let more : StandsFor high rest (sense high (piece ∷ map piece_of s.parts)) = record {
        parts = takes.part ∷ s.parts;
        each = (takes.fits, s.each);
        whole = takes.whole ∙ ap (λ x. part_text takes.part ++ x) s.whole ∙ sym (front_part takes.part s.parts);
        means = ap (λ x. sense high (x ∷ map piece_of s.parts)) takes.brings;
      } in
      subst (StandsFor None inside) (sym (keeps (map piece_of s.parts)) ∙ ap (λ x. new ++ x) (sym s.means)) (reading.onward _ more);
  back = λ w s.
      let (v, standing, e) = reading.back w s in
      let (ps, each, whole, means) = behind rest after high piece v takes standing.parts standing.each standing.whole standing.means in (
        sense left (map piece_of ps),
        record { parts = ps; each = each; whole = whole; means = refl },
        e ∙ ap (λ x. value ++ x) means ∙ sym (keeps (map piece_of ps)),
      );
}

nothing_left : (rest : List ℕ) (answer : Bool) → answer ≡ bytes_eq rest (34 ∷ []) → answer ≡ false
    → NoPart rest → (parts : List Part) → AllByRecursion IsPart parts
    → ¬ (rest ≡ flat_map part_text parts ++ 34 ∷ [])
nothing_left rest answer is fails none [] each whole =
    false≢true (sym fails ∙ is ∙ (bytes_eq-Decides rest (34 ∷ [])).1 whole)
nothing_left rest answer is fails none (p ∷ ps) each whole =
    none p _ each.0 (whole ∙ front_part p ps)

-- neither a part nor the closing quote alone is left
pub no_value : (rest : List ℕ) (high : Option ℕ) (value inside w : List ℕ) (answer : Bool)
    → answer ≡ bytes_eq rest (34 ∷ []) → answer ≡ false → NoPart rest
    → Reading rest high value inside → ¬ StandsFor None inside w
no_value rest high value inside w answer is fails none reading s =
    let (v, standing, e) = reading.back w s in
    nothing_left rest answer is fails none standing.parts standing.each standing.whole

pub closes : (rest : List ℕ) (answer : Bool) → answer ≡ bytes_eq rest (34 ∷ []) → answer ≡ true → rest ≡ 34 ∷ []
closes rest answer is holds = (bytes_eq-Decides rest (34 ∷ [])).0 (sym is ∙ holds)

-- ---- a quote in front

pub finds_quoted : {E : Type 0} (b : ℕ) (inside : List ℕ) (r : Result (Option (List ℕ)) E) → b ≡ 34
    → IfOk r (λ found. IfSome found (λ value. StandsFor None inside value))
    → IfOk r (λ found. IfSome found (λ value. IsQuoted (b ∷ inside) value))
finds_quoted b inside (Ok None) e h = tt
finds_quoted b inside (Ok (Some value)) e h = (inside, ap (λ x. x ∷ inside) e, h)
finds_quoted b inside (Err x) e h = tt

pub no_quoted : (b : ℕ) (inside value : List ℕ) → ((w : List ℕ) → ¬ StandsFor None inside w)
    → ¬ IsQuoted (b ∷ inside) value
no_quoted b inside value none (there, e, s) = none value (subst (λ x. StandsFor None x value) (sym (tail_of e)) s)

pub quote_first : (b : ℕ) (inside value : List ℕ) → b ≢ 34 → ¬ IsQuoted (b ∷ inside) value
quote_first b inside value ne (there, e, s) = ne (head_of e)
