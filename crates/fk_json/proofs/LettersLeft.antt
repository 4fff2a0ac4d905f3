-- Literals, read letter by letter: what is left behind a letter, and where they may end.
use Rattle.std.proofs.Common.{◌≡◌, ◌≢◌, ◌↔◌, ◌==◌, inl, inr, ℕ, Bool, true, false, List, [], ◌∷◌, Option, None, Some, refl, sym, ap, subst, ◌∙◌, arith}
use Rattle.std.proofs.lemmas.Bool.{eqb-false, eqb-true, false≢true, true≢false}
use Rattle.fk_json.proofs.Parts.{head_of, tail_of}
use Rattle.fk_json.specs.Json.{IsLiteral}
use Rattle.fk_json.specs.Tokens.{letters_end, letters_step, when}
use Rattle.fk_json.specs.TokenRests.{letters_text}
use Rattle.fk_json.specs.declared.token.Letters.{Letters}
use Rattle.fk_json.specs.declared.token.Letters.TheVariants.{Ull, Ll, L, Rue, Ue, E, Alse, Lse, Se, Nothing}
use Rattle.fk_json.proofs.DigitsLeft.{no_cons}

-- ---- letters

abbrev BehindLetter : Option Letters → List ℕ → Type 0
BehindLetter None text = ⊥
BehindLetter (Some next) text = text ≡ letters_text next

letter_leads : (b c : ℕ) (text : List ℕ) (next : Letters) (test : Bool) → (b == c) ≡ test
    → (b ∷ text ≡ c ∷ letters_text next) ↔ BehindLetter (when test next) text
letter_leads b c text next true is = (
  λ e. tail_of e,
  λ e. ap (λ x. x ∷ text) (eqb-true b c is) ∙ ap (λ x. c ∷ x) e,
)
letter_leads b c text next false is = (λ e. eqb-false b c is (head_of e), λ h. absurd h)

letters_reads : (left : Letters) (b : ℕ) (text : List ℕ)
    → (b ∷ text ≡ letters_text left) ↔ BehindLetter (letters_step left b) text
letters_reads Ull b text = letter_leads b 117 text Ll _ refl
letters_reads Ll b text = letter_leads b 108 text L _ refl
letters_reads L b text = letter_leads b 108 text Nothing _ refl
letters_reads Rue b text = letter_leads b 114 text Ue _ refl
letters_reads Ue b text = letter_leads b 117 text E _ refl
letters_reads E b text = letter_leads b 101 text Nothing _ refl
letters_reads Alse b text = letter_leads b 97 text Lse _ refl
letters_reads Lse b text = letter_leads b 108 text Se _ refl
letters_reads Se b text = letter_leads b 115 text E _ refl
letters_reads Nothing b text = (λ e. no_cons e, λ h. absurd h)

pub letters_goes : (left next : Letters) (b : ℕ) (text : List ℕ) → letters_step left b ≡ Some next
    → (b ∷ text ≡ letters_text left) ↔ (text ≡ letters_text next)
letters_goes left next b text e =
    subst (λ o. (b ∷ text ≡ letters_text left) ↔ BehindLetter o text) e (letters_reads left b text)

pub letters_stops : (left : Letters) (b : ℕ) (text : List ℕ) → letters_step left b ≡ None
    → ¬ (b ∷ text ≡ letters_text left)
letters_stops left b text e h = subst (λ o. BehindLetter o text) e ((letters_reads left b text).0 h)

pub letters_may_end : (left : Letters) → letters_end left ≡ true → [] ≡ letters_text left
letters_may_end Nothing e = refl
letters_may_end _ e = absurd (false≢true e)

pub letters_unended : (left : Letters) → letters_end left ≡ false → ¬ ([] ≡ letters_text left)
letters_unended Nothing e h = true≢false e
letters_unended _ e h = no_cons (sym h)

-- ---- literals, by their first byte

pub literal_null : (b : ℕ) (text : List ℕ) → b ≡ 110 → IsLiteral (b ∷ text) ↔ (text ≡ letters_text Ull)
literal_null b text at = (onward, λ e. inl (ap (λ x. x ∷ text) at ∙ ap (λ x. 110 ∷ x) e))
  where
    onward : IsLiteral (b ∷ text) → text ≡ letters_text Ull
    onward (inl e) = tail_of e
    onward (inr (inl e)) = absurd (omega (arith, at, head_of e))
    onward (inr (inr e)) = absurd (omega (arith, at, head_of e))

pub literal_true : (b : ℕ) (text : List ℕ) → b ≡ 116 → IsLiteral (b ∷ text) ↔ (text ≡ letters_text Rue)
literal_true b text at = (onward, λ e. inr (inl (ap (λ x. x ∷ text) at ∙ ap (λ x. 116 ∷ x) e)))
  where
    onward : IsLiteral (b ∷ text) → text ≡ letters_text Rue
    onward (inl e) = absurd (omega (arith, at, head_of e))
    onward (inr (inl e)) = tail_of e
    onward (inr (inr e)) = absurd (omega (arith, at, head_of e))

pub literal_false : (b : ℕ) (text : List ℕ) → b ≡ 102 → IsLiteral (b ∷ text) ↔ (text ≡ letters_text Alse)
literal_false b text at = (onward, λ e. inr (inr (ap (λ x. x ∷ text) at ∙ ap (λ x. 102 ∷ x) e)))
  where
    onward : IsLiteral (b ∷ text) → text ≡ letters_text Alse
    onward (inl e) = absurd (omega (arith, at, head_of e))
    onward (inr (inl e)) = absurd (omega (arith, at, head_of e))
    onward (inr (inr e)) = tail_of e

pub literal_none : (b : ℕ) (text : List ℕ) → b ≢ 110 → b ≢ 116 → b ≢ 102 → ¬ IsLiteral (b ∷ text)
literal_none b text null yes_no other (inl e) = null (head_of e)
literal_none b text null yes_no other (inr (inl e)) = yes_no (head_of e)
literal_none b text null yes_no other (inr (inr e)) = other (head_of e)

pub literal_empty : ¬ IsLiteral []
literal_empty (inl e) = no_cons (sym e)
literal_empty (inr (inl e)) = no_cons (sym e)
literal_empty (inr (inr e)) = no_cons (sym e)
