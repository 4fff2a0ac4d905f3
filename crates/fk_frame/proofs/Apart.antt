-- What tells the bytes of two replies apart, whatever comes behind them.
use Rattle.std.proofs.Common.{◌≡◌, ℕ, ◌^◌, ◌<◌, ◌≤◌, List, ◌∷◌, ◌++◌, length, take, drop, true, false, Bool, inl, inr, arith, get_or, refl, sym, ap, ◌∙◌, nat_eq}
use Rattle.std.specs.List.{All, slice_split}
use Rattle.std.specs.Fmt.{decimal}
use Rattle.std.proofs.lemmas.Bool.{ne_eqb, cases_Bool}
use Rattle.std.proofs.lemmas.Fmt.{decimal_is_IsNumeral, decimal_injective, decimal_nonempty}
use Rattle.std.proofs.lemmas.List.{append_assoc, append_cancel_left, get_or_default, get_or_append_left, take_at, drop_at}
use Rattle.std.proofs.lemmas.List.Splits.{slice_split_at}
use Rattle.std.proofs.lemmas.List.Sums.{AllPass-from_list_all}
use Rattle.std.proofs.lemmas.Str.Parse.{digit_at}
use Rattle.fk_frame.specs.Bytes.{carriage_return, line_end}
use Rattle.fk_frame.specs.Replies.{reply_bytes, is_within_line, IsWellFormed, IsOneLine, FitsMemory}
use Rattle.fk_frame.specs.declared.reply.Reply.{Reply}
use Rattle.fk_frame.specs.declared.reply.Reply.TheVariants.{Status, Error, Bulk, Nil}

abbrev is_return : ℕ → Bool
is_return byte = nat_eq byte carriage_return

-- no byte of the text is a CR
abbrev HasNoReturn : List ℕ → Type 0
HasNoReturn text = All (λ byte. is_return byte ≡ false) text

-- a byte within a line is no CR
not_a_return : (byte : ℕ) → is_within_line byte ≡ true → is_return byte ≡ false
not_a_return byte passes =
    elim (cases_Bool (is_return byte)) [
      | inl is ↦ let no = rw is at passes in cc
      | inr not ↦ not
    ]

no_return : (text : List ℕ) → IsOneLine text → HasNoReturn text
no_return text one k d lt = not_a_return _ (AllPass-from_list_all is_within_line text one k d lt)

-- a number in decimal is digits
pub digit : (n k : ℕ) (d : ℕ) → n < 2 ^ 64 → k < length (decimal n) → 48 ≤ get_or (decimal n) k d
digit n k d fits lt =
    let numeral = decimal_is_IsNumeral n fits in
    let here = digit_at (decimal n) k numeral.0.1 lt in
    rw (get_or_default (decimal n) k d 0 lt) here.0

digits_have_no_return : (n : ℕ) → n < 2 ^ 64 → HasNoReturn (decimal n)
digits_have_no_return n fits k d lt = ne_eqb _ _ (λ e. omega (arith, digit n k d fits lt))

-- two texts before the first CR
cut : (a b x y : List ℕ) → HasNoReturn a → HasNoReturn b
    → a ++ carriage_return ∷ x ≡ b ++ carriage_return ∷ y → (a ≡ b) × (x ≡ y)
cut a b x y free_a free_b e =
    let left = slice_split_at is_return a carriage_return x free_a refl in
    let right = slice_split_at is_return b carriage_return y free_b refl in
    let parts : a ∷ slice_split is_return x ≡ b ∷ slice_split is_return y =
    sym left ∙ ap (slice_split is_return) e ∙ right in
    let same : a ≡ b = cc in
    let whole : a ++ carriage_return ∷ x ≡ a ++ carriage_return ∷ y = cc in
    (same, cc (append_cancel_left a (carriage_return ∷ x) (carriage_return ∷ y) whole))

-- a text that is one line, and its line end
one_line : (a b x y : List ℕ) → IsOneLine a → IsOneLine b
    → (a ++ line_end) ++ x ≡ (b ++ line_end) ++ y → (a ≡ b) × (x ≡ y)
one_line a b x y line_a line_b e =
    let cuts = cut a b (10 ∷ x) (10 ∷ y) (no_return a line_a) (no_return b line_b)
    (simp append_assoc at e) in
    (cuts.0, cc (cuts.1))

-- two texts of one length
same_length : (a b x y : List ℕ) → length a ≡ length b → a ++ x ≡ b ++ y → (a ≡ b) × (x ≡ y)
same_length a b x y len e = (
  sym (take_at a x (length a) refl) ∙ ap (take (length a)) e ∙ take_at b y (length a) (sym len),
  sym (drop_at a x (length a) refl) ∙ ap (drop (length a)) e ∙ drop_at b y (length a) (sym len),
)

-- a bulk's text behind its length, and what comes behind it
abbrev bulk_then : List ℕ → List ℕ → List ℕ
bulk_then text x = decimal (length text) ++ carriage_return ∷ 10 ∷ (text ++ carriage_return ∷ 10 ∷ x)

-- what is behind a bulk's first byte, and what comes behind that, as `bulk_then`
regroup : (number text x : List ℕ)
    → number ++ line_end ++ text ++ line_end ++ x
    ≡ number ++ carriage_return ∷ 10 ∷ (text ++ carriage_return ∷ 10 ∷ x)
regroup number text x = simp append_assoc

-- two texts behind their lengths
bulk : (a b x y : List ℕ) → length a < 2 ^ 64 → length b < 2 ^ 64
    → bulk_then a x ≡ bulk_then b y → (a ≡ b) × (x ≡ y)
bulk a b x y fits_a fits_b e =
    let heads = cut (decimal (length a)) (decimal (length b)) _ _
    (digits_have_no_return _ fits_a) (digits_have_no_return _ fits_b) e in
    let len = decimal_injective _ _ fits_a fits_b heads.0 in
    let behind : a ++ carriage_return ∷ 10 ∷ x ≡ b ++ carriage_return ∷ 10 ∷ y = cc (heads.1) in
    let texts = same_length a b _ _ len behind in
    (texts.0, cc (texts.1))

-- a length isn't -1
not_nil : (a x y : List ℕ) → length a < 2 ^ 64 → bulk_then a x ≡ 45 ∷ y → ⊥
not_nil a x y fits e =
    let some = decimal_nonempty (length a) fits in
    let tail = carriage_return ∷ 10 ∷ (a ++ carriage_return ∷ 10 ∷ x) in
    let front = get_or_append_left (decimal (length a)) tail 0 0 some in
    let first : get_or (decimal (length a)) 0 0 ≡ 45 = sym front ∙ ap (λ l. get_or l 0 0) e in
    omega (arith, digit (length a) 0 0 fits some)

-- the first bytes of equal lists are equal
pub heads : (a b : ℕ) (x y : List ℕ) → a ∷ x ≡ b ∷ y → a ≡ b
heads a b x y e = cc

behind : (a b : ℕ) (x y : List ℕ) → a ∷ x ≡ b ∷ y → x ≡ y
behind a b x y e = cc

pub apart : (r s : Reply) (x y : List ℕ) → IsWellFormed r → IsWellFormed s → FitsMemory r → FitsMemory s
    → reply_bytes r ++ x ≡ reply_bytes s ++ y → (r ≡ s) × (x ≡ y)
apart (Status a) (Status b) x y p q m n e =
    let texts = one_line a b x y p q (behind 43 43 _ _ e) in (ap Status texts.0, texts.1)
apart (Error a) (Error b) x y p q m n e =
    let texts = one_line a b x y p q (behind 45 45 _ _ e) in (ap Error texts.0, texts.1)
apart (Bulk a) (Bulk b) x y p q m n e =
    let whole = sym (regroup _ a x) ∙ behind 36 36 _ _ e ∙ regroup _ b y in
    let texts = bulk a b x y m n whole in
    (ap Bulk texts.0, texts.1)
apart Nil Nil x y p q m n e = (refl, ap (drop 5) e)
apart (Bulk a) Nil x y p q m n e = absurd (not_nil a x _ m (sym (regroup _ a x) ∙ behind 36 36 _ _ e))
apart Nil (Bulk b) x y p q m n e = absurd (not_nil b y _ n (sym (regroup _ b y) ∙ sym (behind 36 36 _ _ e)))
apart (Status a) (Error b) x y p q m n e = absurd (omega (arith, heads 43 45 _ _ e))
apart (Status a) (Bulk b) x y p q m n e = absurd (omega (arith, heads 43 36 _ _ e))
apart (Status a) Nil x y p q m n e = absurd (omega (arith, heads 43 36 _ _ e))
apart (Error a) (Status b) x y p q m n e = absurd (omega (arith, heads 45 43 _ _ e))
apart (Error a) (Bulk b) x y p q m n e = absurd (omega (arith, heads 45 36 _ _ e))
apart (Error a) Nil x y p q m n e = absurd (omega (arith, heads 45 36 _ _ e))
apart (Bulk a) (Status b) x y p q m n e = absurd (omega (arith, heads 36 43 _ _ e))
apart (Bulk a) (Error b) x y p q m n e = absurd (omega (arith, heads 36 45 _ _ e))
apart Nil (Status b) x y p q m n e = absurd (omega (arith, heads 36 43 _ _ e))
apart Nil (Error b) x y p q m n e = absurd (omega (arith, heads 36 45 _ _ e))
