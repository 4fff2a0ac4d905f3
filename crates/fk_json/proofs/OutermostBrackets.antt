-- The outermost brackets: what is left of the text behind the opening one.
use Rattle.std.proofs.Common.{◌≡◌, ◌↔◌, inl, inr, ℕ, suc, ◌+◌, List, [], ◌∷◌, ◌++◌, length, refl, sym, ap, subst, ◌∙◌, arith}
use Rattle.std.proofs.lemmas.List.{append_assoc}
use Rattle.fk_json.specs.Json.{AreItems, AreJoined, IsArrayText, IsElement, IsMember, IsObjectText, IsSpace, IsText, IsValue}
use Rattle.fk_json.specs.Left.{Frame, noted, Spaced, ByteThen, FirstLeft, outermost}
use Rattle.fk_json.specs.declared.member.Member.{Member}
use Rattle.fk_json.specs.declared.span.Span.{Span}
use Rattle.fk_json.specs.declared.mode.Bracket.TheVariants.{Array, Object}
use Rattle.fk_json.proofs.Opened.{IsBracketed}

-- brackets whose items are found, and white space behind them
abbrev pub keeping : {I : Type 0} → (ℕ → List ℕ → I → Type 0) → ℕ → Frame I I
keeping IsThing close = record {
  IsItem = IsThing;
  close = close;
  note = λ item others. item ∷ others;
  Behind = λ at text found. IsSpace text × (found ≡ []);
}

kept : {I : Type 0} (items others : List I) → others ≡ []
    → noted (λ item behind. item ∷ behind) items others ≡ items
kept [] others none = none
kept (item ∷ items) others none = ap (λ x. item ∷ x) (kept items others none)

items_first : {I : Type 0} (IsThing : ℕ → List ℕ → I → Type 0) (close at : ℕ) (items : List I)
    (inner after : List ℕ)
    → IsSpace after → AreItems IsThing at inner items
    → FirstLeft (keeping IsThing close) at (inner ++ close ∷ after) items
items_first IsThing close at items inner after space (inl (none, blank)) =
    inr (inner, close ∷ after, blank, (after, (space, none), refl), refl)
items_first IsThing close at items inner after space (inr joined) =
    inl (items, inner, after, [], joined, (space, refl), sym (kept items [] refl), refl)

first_items : {I : Type 0} (IsThing : ℕ → List ℕ → I → Type 0) (close at : ℕ) (text : List ℕ) (items : List I)
    → FirstLeft (keeping IsThing close) at text items
    → (inner after : List ℕ) × IsSpace after × AreItems IsThing at inner items
    × (text ≡ inner ++ close ∷ after)
first_items IsThing close at text items (inl (found, inner, after, others, joined, (space, none), f, e)) =
    let same : found ≡ items = sym (f ∙ kept found others none) in
    (inner, after, space, inr (subst (λ x. AreJoined IsThing at inner x) same joined), e)
first_items IsThing close at text items (inr (inner, rest, blank, (after, (space, none), v), w)) =
    (inner, after, space, inl (none, blank), w ∙ ap (λ x. inner ++ x) v)

around : (before inner after : List ℕ) (open_byte close : ℕ)
    → (before ++ open_byte ∷ (inner ++ close ∷ [])) ++ after ≡ before ++ open_byte ∷ (inner ++ close ∷ after)
around before inner after open_byte close =
    append_assoc before (open_byte ∷ (inner ++ close ∷ [])) after
    ∙ ap (λ x. before ++ open_byte ∷ x) (append_assoc inner (close ∷ []) after)

text_first : {I : Type 0} (IsThing : ℕ → List ℕ → I → Type 0) (open_byte close : ℕ) (text : List ℕ)
    (items : List I)
    → IsText (IsBracketed IsThing open_byte close) text items
    → Spaced (ByteThen open_byte (λ place rest. FirstLeft (keeping IsThing close) place rest items)) 0 text
text_first IsThing open_byte close text items h =
    let (inner, things, w) = h.shaped in
    let rest = inner ++ close ∷ h.after in
    let same : length h.before + 1 ≡ 0 + length h.before + 1 = omega arith in
    let first = items_first IsThing close (length h.before + 1) items inner h.after h.spaces.1 things in (
      h.before,
      open_byte ∷ rest,
      h.spaces.0,
      (rest, subst (λ n. FirstLeft (keeping IsThing close) n rest items) same first, refl),
      h.whole ∙ ap (λ x. h.before ++ x ++ h.after) w ∙ around h.before inner h.after open_byte close,
    )

first_text : {I : Type 0} (IsThing : ℕ → List ℕ → I → Type 0) (open_byte close : ℕ) (text : List ℕ)
    (items : List I)
    → Spaced (ByteThen open_byte (λ place rest. FirstLeft (keeping IsThing close) place rest items)) 0 text
    → IsText (IsBracketed IsThing open_byte close) text items
first_text IsThing open_byte close text items (before, rest, blank, (more, first, v), e) =
    let (inner, after, space, things, w) =
    first_items IsThing close (0 + length before + 1) more items first in
    let same : 0 + length before + 1 ≡ length before + 1 = omega arith in
    record {
      before = before;
      part = open_byte ∷ (inner ++ close ∷ []);
      after = after;
      spaces = (blank, space);
      shaped = (inner, subst (λ n. AreItems IsThing n inner items) same things, refl);
      whole = e ∙ ap (λ x. before ++ x) (v ∙ ap (λ x. open_byte ∷ x) w)
          ∙ sym (around before inner after open_byte close);
    }

pub array_text_opened : (levels : ℕ) (text : List ℕ) (elements : List Span)
    → IsArrayText (suc levels) text elements
    ↔ Spaced (ByteThen 91 (λ place rest. FirstLeft (outermost Array levels) place rest elements)) 0 text
array_text_opened levels text elements = (
  text_first (IsElement (IsValue levels)) 91 93 text elements,
  first_text (IsElement (IsValue levels)) 91 93 text elements,
)

pub object_text_opened : (levels : ℕ) (text : List ℕ) (members : List Member)
    → IsObjectText (suc levels) text members
    ↔ Spaced (ByteThen 123 (λ place rest. FirstLeft (outermost Object levels) place rest members)) 0 text
object_text_opened levels text members = (
  text_first (IsMember (IsValue levels)) 123 125 text members,
  first_text (IsMember (IsValue levels)) 123 125 text members,
)
