-- What is left of a string behind a backslash.
use Rattle.std.proofs.Common.{◌≡◌, ◌↔◌, ℕ, List, [], ◌∷◌, ◌++◌, flat_map, inl, inr, refl, sym, ap, subst, arith}
use Rattle.std.specs.List.{AllByRecursion}
use Rattle.std.specs.Str.{IsUtf8}
use Rattle.fk_json.specs.String.{IsPart, Part, byte, letter, unit, part_text, quote}
use Rattle.fk_json.specs.TokenRests.{DigitThen, EscapeLeft, InsideLeft}
use Rattle.fk_json.proofs.Parts.{head_of, tail_of}
use Rattle.fk_json.proofs.Utf8Strings.{after_ascii, cons_ascii}
use Rattle.fk_json.proofs.StringParts.{hexadecimal_low, letter_low}

digits_utf8 : (a b c d : ℕ) (rest : List ℕ) → IsPart (unit a b c d)
    → IsUtf8 (92 ∷ 117 ∷ a ∷ b ∷ c ∷ d ∷ rest) → IsUtf8 rest
digits_utf8 a b c d rest f u =
    let u2 = after_ascii (92 ∷ []) 117 (a ∷ b ∷ c ∷ d ∷ rest) (omega arith) u in
    let u3 = after_ascii [] a (b ∷ c ∷ d ∷ rest) (hexadecimal_low a f.0) u2 in
    let u4 = after_ascii [] b (c ∷ d ∷ rest) (hexadecimal_low b f.1) u3 in
    let u5 = after_ascii [] c (d ∷ rest) (hexadecimal_low c f.2) u4 in
    after_ascii [] d rest (hexadecimal_low d f.3) u5

escaped : (text : List ℕ) (parts : List Part) → AllByRecursion IsPart parts
    → 92 ∷ text ≡ flat_map part_text parts ++ quote ∷ [] → IsUtf8 (92 ∷ text) → EscapeLeft text
escaped text [] each e u = absurd (omega (arith, head_of e))
escaped text (byte b ∷ ps) each e u = absurd (each.0.2 (sym (head_of e)))
escaped text (letter l ∷ ps) each e u =
    let rest = flat_map part_text ps ++ quote ∷ [] in
    let behind = after_ascii (92 ∷ []) l rest (letter_low l each.0) (subst IsUtf8 e u) in
    subst EscapeLeft (sym (tail_of e)) (inl (each.0, (ps, each.1, refl, behind)))
escaped text (unit a b c d ∷ ps) each e u =
    let rest = flat_map part_text ps ++ quote ∷ [] in
    let f = each.0 in
    let behind = digits_utf8 a b c d rest f (subst IsUtf8 e u) in
    subst EscapeLeft (sym (tail_of e)) (inr (refl, (f.0, (f.1, (f.2, (f.3, (ps, each.1, refl, behind)))))))

four_behind : (text : List ℕ) → DigitThen (DigitThen (DigitThen (DigitThen InsideLeft))) text
    → InsideLeft (92 ∷ 117 ∷ text)
four_behind [] t = absurd t
four_behind (a ∷ []) t = absurd t.1
four_behind (a ∷ b ∷ []) t = absurd t.1.1
four_behind (a ∷ b ∷ c ∷ []) t = absurd t.1.1.1
four_behind (a ∷ b ∷ c ∷ d ∷ rest) t =
    let i = t.1.1.1.1 in
    let u4 = cons_ascii d rest (hexadecimal_low d t.1.1.1.0) i.3 in
    let u3 = cons_ascii c (d ∷ rest) (hexadecimal_low c t.1.1.0) u4 in
    let u2 = cons_ascii b (c ∷ d ∷ rest) (hexadecimal_low b t.1.0) u3 in
    let u1 = cons_ascii a (b ∷ c ∷ d ∷ rest) (hexadecimal_low a t.0) u2 in (
      unit a b c d ∷ i.0,
      ((t.0, t.1.0, t.1.1.0, t.1.1.1.0), i.1),
      ap (λ x. 92 ∷ 117 ∷ a ∷ b ∷ c ∷ d ∷ x) i.2,
      cons_ascii 92 _ (omega arith) (cons_ascii 117 _ (omega arith) u1),
    )

unescaped : (text : List ℕ) → EscapeLeft text → InsideLeft (92 ∷ text)
unescaped [] t = absurd t
unescaped (b ∷ rest) (inl (is, i)) = (
  letter b ∷ i.0,
  (is, i.1),
  ap (λ x. 92 ∷ b ∷ x) i.2,
  cons_ascii 92 _ (omega arith) (cons_ascii b rest (letter_low b is) i.3),
)
unescaped (b ∷ rest) (inr (e, t)) = subst (λ x. InsideLeft (92 ∷ x ∷ rest)) (sym e) (four_behind rest t)

pub inside_escape : (text : List ℕ) → InsideLeft (92 ∷ text) ↔ EscapeLeft text
inside_escape text = (λ i. escaped text i.0 i.1 i.2 i.3, λ t. unescaped text t)
