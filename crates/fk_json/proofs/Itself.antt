-- Bytes that stand for themselves in a string, read and written at once.
use Rattle.std.proofs.Common.{◌≡◌, ℕ, suc, ◌+◌, Bool, true, false, cond, List, [], ◌∷◌, ◌++◌, take, drop, flat_map, Option, None, Some, refl, sym, ap, subst, ◌∙◌, arith}
use Rattle.std.specs.List.{prefix_len, take_while}
use Rattle.std.specs.Str.{bytes_eq}
use Rattle.std.proofs.lemmas.Bool.{le-ltb, ne_eqb}
use Rattle.std.proofs.lemmas.Bool.Decides.{nat_tests}
use Rattle.std.proofs.lemmas.List.{append-nil, append_assoc}
use Rattle.fk_json.specs.Pieces.{GainsBehind, StandsFor, Takes, sense}
use Rattle.fk_json.specs.String.{IsPart, byte, is_itself, spelled_byte}
use Rattle.fk_json.specs.declared.piece.Piece.TheVariants.{Byte}
use Rattle.fk_json.proofs.Parts.{Reading, begins, closes, goes_on}

one_more : (n : ℕ) → 1 + n ≡ suc n
one_more n = omega arith

-- ---- read

itself_part : (b : ℕ) → is_itself b ≡ true → IsPart (byte b)
itself_part b e = grind (arith, nat_tests, e)

reading_byte : (b : ℕ) (rest value inside : List ℕ) → IsPart (byte b) → Reading (b ∷ rest) None value inside
    → Reading rest None (value ++ b ∷ []) inside
reading_byte b rest value inside fits reading =
    let takes : Takes (b ∷ rest) (Byte b) rest = record { part = byte b; fits = fits; whole = refl; brings = refl } in
    goes_on (b ∷ rest) rest None None value (value ++ b ∷ []) inside (Byte b) takes
    (λ pieces. append_assoc value (b ∷ []) (sense None pieces)) reading

reading_first : (b n : ℕ) (rest value inside : List ℕ) (own : Bool) → (own ≡ true → IsPart (byte b))
    → Reading (b ∷ rest) None value inside
    → ((more : List ℕ) → Reading rest None more inside → Reading (drop n rest) None (more ++ take n rest) inside)
    → Reading (drop (cond own (1 + n) 0) (b ∷ rest)) None (value ++ take (cond own (1 + n) 0) (b ∷ rest)) inside
reading_first b n rest value inside true fits reading more =
    subst (λ k. Reading (drop k (b ∷ rest)) None (value ++ take k (b ∷ rest)) inside) (sym (one_more n))
    (subst (λ x. Reading (drop n rest) None x inside) (append_assoc value (b ∷ []) (take n rest))
    (more (value ++ b ∷ []) (reading_byte b rest value inside (fits refl) reading)))
reading_first b n rest value inside false fits reading more =
    subst (λ x. Reading (b ∷ rest) None x inside) (sym (append-nil value)) reading

-- the bytes at the front that stand for themselves are read
pub reading_run : (bytes value inside : List ℕ) → Reading bytes None value inside
    → Reading (drop (prefix_len is_itself bytes) bytes) None (value ++ take_while is_itself bytes) inside
reading_run [] value inside reading =
    subst (λ x. Reading [] None x inside) (sym (append-nil value)) reading
reading_run (b ∷ bytes) value inside reading =
    reading_first b (prefix_len is_itself bytes) bytes value inside (is_itself b) (itself_part b) reading
    (λ more there. reading_run bytes more inside there)

pub reading_starts : (inside value new rest : List ℕ) → value ≡ [] → new ≡ value ++ take_while is_itself inside
    → rest ≡ drop (prefix_len is_itself inside) inside → Reading rest None new inside
reading_starts inside value new rest none gains is =
    subst (λ x. Reading x None new inside) (sym is)
    (subst (λ x. Reading (drop (prefix_len is_itself inside) inside) None x inside) (sym gains)
    (reading_run inside value inside (subst (λ x. Reading inside None x inside) (sym none) (begins inside))))

-- and so they are where no high surrogate looks for its partner
pub reading_behind : (high : Option ℕ) (value bytes new rest inside : List ℕ) → GainsBehind high value bytes new rest
    → Reading bytes high value inside → Reading rest high new inside
reading_behind None value bytes new rest inside gains reading =
    subst (λ x. Reading x None new inside) (sym gains.1)
    (subst (λ x. Reading (drop (prefix_len is_itself bytes) bytes) None x inside) (sym gains.0)
    (reading_run bytes value inside reading))
reading_behind (Some high) value bytes new rest inside same reading =
    subst (λ x. Reading x (Some high) new inside) (sym same.1)
    (subst (λ x. Reading bytes (Some high) x inside) (sym same.0) reading)

only_quote : StandsFor None (34 ∷ []) []
only_quote = record { parts = []; each = tt; whole = refl; means = refl }

-- bytes that stand for themselves, and the closing quote behind them, stand for these bytes
pub plain_stands : (inside plain rest value : List ℕ) (answer : Bool) → plain ≡ take_while is_itself inside
    → rest ≡ drop (prefix_len is_itself inside) inside → value ≡ plain → answer ≡ bytes_eq rest (34 ∷ [])
    → answer ≡ true → StandsFor None inside value
plain_stands inside plain rest value answer is behind copied quoted holds =
    let reading = reading_starts inside [] value rest refl (copied ∙ is) behind in
    subst (StandsFor None inside) (append-nil value)
    (reading.onward [] (subst (λ x. StandsFor None x []) (sym (closes rest answer quoted holds)) only_quote))

-- ---- written

spelled_itself : (b : ℕ) → is_itself b ≡ true → spelled_byte b ≡ b ∷ []
spelled_itself b own =
    let (l, quoted, escaped) = itself_part b own in
    rw (
      ne_eqb b 34 quoted,
      ne_eqb b 92 escaped,
      ne_eqb b 8 (λ e. omega (arith, l, e)),
      ne_eqb b 9 (λ e. omega (arith, l, e)),
      ne_eqb b 10 (λ e. omega (arith, l, e)),
      ne_eqb b 12 (λ e. omega (arith, l, e)),
      ne_eqb b 13 (λ e. omega (arith, l, e)),
      le-ltb b 32 l,
    ) refl

spelled_first : (b n : ℕ) (rest : List ℕ) (own : Bool) → (own ≡ true → spelled_byte b ≡ b ∷ [])
    → flat_map spelled_byte rest ≡ take n rest ++ flat_map spelled_byte (drop n rest)
    → flat_map spelled_byte (b ∷ rest)
    ≡ take (cond own (1 + n) 0) (b ∷ rest) ++ flat_map spelled_byte (drop (cond own (1 + n) 0) (b ∷ rest))
spelled_first b n rest true is more =
    ap (λ x. x ++ flat_map spelled_byte rest) (is refl) ∙ ap (λ x. b ∷ x) more
    ∙ ap (λ k. take k (b ∷ rest) ++ flat_map spelled_byte (drop k (b ∷ rest))) (sym (one_more n))
spelled_first b n rest false is more = refl

-- the bytes at the front that stand for themselves are written as they are
pub spelled_run : (bytes : List ℕ)
    → flat_map spelled_byte bytes
    ≡ take_while is_itself bytes ++ flat_map spelled_byte (drop (prefix_len is_itself bytes) bytes)
spelled_run [] = refl
spelled_run (b ∷ bytes) =
    spelled_first b (prefix_len is_itself bytes) bytes (is_itself b) (spelled_itself b) (spelled_run bytes)

pub written_on : (before bytes after rest : List ℕ) → after ≡ before ++ take_while is_itself bytes
    → rest ≡ drop (prefix_len is_itself bytes) bytes
    → after ++ flat_map spelled_byte rest ≡ before ++ flat_map spelled_byte bytes
written_on before bytes after rest gains is =
    ap (λ x. after ++ flat_map spelled_byte x) is
    ∙ ap (λ x. x ++ flat_map spelled_byte (drop (prefix_len is_itself bytes) bytes)) gains
    ∙ append_assoc before (take_while is_itself bytes) (flat_map spelled_byte (drop (prefix_len is_itself bytes) bytes))
    ∙ ap (λ x. before ++ x) (sym (spelled_run bytes))

-- one byte more is written
pub written_byte : (before bytes rest after : List ℕ) (b : ℕ) → bytes ≡ b ∷ rest → after ≡ before ++ spelled_byte b
    → after ++ flat_map spelled_byte rest ≡ before ++ flat_map spelled_byte bytes
written_byte before bytes rest after b is gains =
    ap (λ x. x ++ flat_map spelled_byte rest) gains ∙ append_assoc before (spelled_byte b) (flat_map spelled_byte rest)
    ∙ ap (λ x. before ++ flat_map spelled_byte x) (sym is)
