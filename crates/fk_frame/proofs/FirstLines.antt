-- The first line of a reply, and where a stream leaves it.
use Rattle.std.proofs.Common.{◌≡◌, ℕ, ◌<◌, ◌≤◌, ◌^◌, true, List, [], ◌∷◌, ◌++◌, length, arith, refl, sym, ap, ◌∙◌}
use Rattle.std.specs.Fmt.{decimal}
use Rattle.std.proofs.lemmas.Bool.{and_parts}
use Rattle.std.proofs.lemmas.Bool.Decides.{nat_tests}
use Rattle.std.proofs.lemmas.List.{append_assoc}
use Rattle.std.proofs.lemmas.List.Sums.{list_all-from_AllPass}
use Rattle.fk_frame.specs.declared.reply.Reply.{Reply}
use Rattle.fk_frame.specs.declared.reply.Reply.TheVariants.{Status, Error, Bulk, Nil}
use Rattle.fk_frame.specs.Bytes.{carriage_return, line_feed, line_end}
use Rattle.fk_frame.specs.Fronts.{is_break}
use Rattle.fk_frame.specs.Replies.{reply_bytes, is_within_line, IsOneLine}
use Rattle.fk_frame.specs.Streams.{IsReadable}
use Rattle.fk_frame.proofs.Apart.{digit}

-- a reply's bytes before its first line end
abbrev pub first_line : Reply → List ℕ
first_line (Status text) = 43 ∷ text
first_line (Error text) = 45 ∷ text
first_line (Bulk text) = 36 ∷ decimal (length text)
first_line Nil = 36 ∷ 45 ∷ 49 ∷ []

-- and those behind it
abbrev pub behind_line : Reply → List ℕ
behind_line (Status text) = []
behind_line (Error text) = []
behind_line (Bulk text) = text ++ line_end
behind_line Nil = []

pub parts : (r : Reply) (y : List ℕ)
    → reply_bytes r ++ y ≡ first_line r ++ carriage_return ∷ line_feed ∷ (behind_line r ++ y)
parts (Status text) y = simp append_assoc
parts (Error text) y = simp append_assoc
parts (Bulk text) y = simp append_assoc
parts Nil y = refl

-- a byte is either
no_both : (c : ℕ) → is_within_line c ≡ true → is_break c ≡ true → ⊥
no_both c within break_is = grind (arith, nat_tests)

within : (c : ℕ) → 48 ≤ c → is_within_line c ≡ true
within c above = grind (arith, nat_tests)

-- a number in decimal is one line
pub decimal_line : (n : ℕ) → n < 2 ^ 63 → IsOneLine (decimal n)
decimal_line n fits =
    list_all-from_AllPass is_within_line (decimal n)
    (λ k d lt. within _ (digit n k d (omega arith) lt))

-- the first line is one line
pub one_line : (r : Reply) → IsReadable r → IsOneLine (first_line r)
one_line (Status text) h = h
one_line (Error text) h = h
one_line (Bulk text) h = decimal_line (length text) h
one_line Nil h = refl

-- the first byte of a line, and the others
head : (c : ℕ) (line : List ℕ) → IsOneLine (c ∷ line) → is_within_line c ≡ true
head c line one = (and_parts _ _ one).0

pub tail : (c : ℕ) (line : List ℕ) → IsOneLine (c ∷ line) → IsOneLine line
tail c line one = (and_parts _ _ one).1

-- two lines before what breaks them
same_line : (a b : List ℕ) (c d : ℕ) (x y : List ℕ) → IsOneLine a → IsOneLine b
    → is_break c ≡ true → is_break d ≡ true → a ++ c ∷ x ≡ b ++ d ∷ y → (a ≡ b) × (c ∷ x ≡ d ∷ y)
same_line [] [] c d x y p q m n e = (refl, e)
same_line [] (b ∷ bs) c d x y p q m n e =
    let same : c ≡ b = cc in
    absurd (no_both b (head b bs q) (rw same at m))
same_line (a ∷ l) [] c d x y p q m n e =
    let same : a ≡ d = cc in
    absurd (no_both d (rw same at (head a l p)) n)
same_line (a ∷ l) (b ∷ k) c d x y p q m n e =
    let same : a ≡ b = cc in
    let rest : l ++ c ∷ x ≡ k ++ d ∷ y = cc in
    let more = same_line l k c d x y (tail a l p) (tail b k q) m n rest in
    (ap (λ (z : ℕ). z ∷ l) same ∙ ap (λ (z : List ℕ). b ∷ z) more.0, more.1)

-- a line and what breaks it are those of the reply that the stream begins with
pub broken_line : (r : Reply) (line : List ℕ) (c : ℕ) (x y : List ℕ) → IsReadable r → IsOneLine line
    → is_break c ≡ true → line ++ c ∷ x ≡ reply_bytes r ++ y
    → (line ≡ first_line r) × (c ∷ x ≡ carriage_return ∷ line_feed ∷ (behind_line r ++ y))
broken_line r line c x y readable one ends e =
    same_line line (first_line r) c 13 x (10 ∷ (behind_line r ++ y)) one (one_line r readable) ends refl
    (e ∙ parts r y)

-- a line that nothing breaks goes on to another line's end
front_of_line : (a b x y : List ℕ) → IsOneLine a → a ++ x ≡ b ++ carriage_return ∷ y
    → (more : List ℕ) × (b ≡ a ++ more)
front_of_line [] b x y p e = (b, refl)
front_of_line (a ∷ l) [] x y p e =
    let same : a ≡ 13 = cc in
    absurd (no_both 13 (rw same at (head a l p)) refl)
front_of_line (a ∷ l) (b ∷ k) x y p e =
    let same : a ≡ b = cc in
    let rest : l ++ x ≡ k ++ carriage_return ∷ y = cc in
    let more = front_of_line l k x y (tail a l p) rest in
    (more.0, ap (λ (z : ℕ). z ∷ k) (sym same) ∙ ap (λ (z : List ℕ). a ∷ z) more.1)

pub open_line : (r : Reply) (line x y : List ℕ) → IsOneLine line → line ++ x ≡ reply_bytes r ++ y
    → (more : List ℕ) × (first_line r ≡ line ++ more)
open_line r line x y one e = front_of_line line (first_line r) x _ one (e ∙ parts r y)
