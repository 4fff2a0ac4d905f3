-- What is left of elements, taken apart into a value and what stands behind it.
use Rattle.std.proofs.Common.{◌≡◌, ◌↔◌, ℕ, ◌+◌, List, ◌++◌, length, refl, sym, ap, subst, ◌∙◌, arith}
use Rattle.std.proofs.lemmas.List.{append_assoc, length-append}
use Rattle.fk_json.specs.Json.{IsElement}
use Rattle.fk_json.specs.Left.{Frame, ItemsLeft, TailLeft, ValueLeft}
use Rattle.fk_json.specs.declared.span.Span.{Span}
use Rattle.fk_json.proofs.Items.{items_apart}

-- a value with white space around it, whose place makes an item, and what is left behind it
abbrev pub ElementThen : {I O : Type 0} → Frame I O → (List ℕ → Type 0) → (ℕ → ℕ → I)
    → ℕ → List ℕ → List O → Type 0
ElementThen {I} {O} F IsInner item at text found =
    (piece behind : List ℕ) × (span : Span) × (others : List O) × IsElement IsInner at piece span
    × TailLeft F (at + length piece) behind others × (found ≡ F.note (item span.from span.to) others)
    × (text ≡ piece ++ behind)

pub three_before : (x y z rest : List ℕ) → (x ++ y ++ z) ++ rest ≡ x ++ (y ++ (z ++ rest))
three_before x y z rest = append_assoc (x ++ y) z rest ∙ append_assoc x y (z ++ rest)

pub length_three : (x y z : List ℕ) → length (x ++ y ++ z) ≡ length x + length y + length z
length_three x y z = omega (arith, length-append (x ++ y) z, length-append x y)

place_three : (at : ℕ) (piece x y z : List ℕ) → piece ≡ x ++ y ++ z
    → at + length piece ≡ at + length x + length y + length z
place_three at piece x y z e = omega (arith, ap length e, length_three x y z)

pub element_value : {I O : Type 0} (F : Frame I O) (IsInner : List ℕ → Type 0) (item : ℕ → ℕ → I)
    (at : ℕ) (text : List ℕ) (found : List O)
    → ElementThen F IsInner item at text found → ValueLeft F IsInner item at text found
element_value F IsInner item at text found (piece, behind, span, others, h, tail, f, e) =
    let from = at + length h.before in
    let to : span.to ≡ from + length h.value = h.to ∙ ap (λ n. n + length h.value) h.from in
    let place = place_three at piece h.before h.value h.after h.whole in (
      h.before,
      h.value ++ (h.after ++ behind),
      h.spaces.0,
      (
        h.value,
        h.after ++ behind,
        others,
        h.valued,
        (h.after, behind, h.spaces.1, subst (λ n. TailLeft F n behind others) place tail, refl),
        f ∙ ap (λ n. F.note (item n span.to) others) h.from ∙ ap (λ n. F.note (item from n) others) to,
        refl,
      ),
      e ∙ ap (λ x. x ++ behind) h.whole ∙ three_before h.before h.value h.after behind,
    )

pub value_element : {I O : Type 0} (F : Frame I O) (IsInner : List ℕ → Type 0) (item : ℕ → ℕ → I)
    (at : ℕ) (text : List ℕ) (found : List O)
    → ValueLeft F IsInner item at text found → ElementThen F IsInner item at text found
value_element F IsInner item at text found
    (before, rest, space, (value, more, others, valued, (after, behind, space_after, tail, v), f, w), e) =
    let place = place_three at (before ++ value ++ after) before value after refl in (
      before ++ value ++ after,
      behind,
      record { from = at + length before; to = at + length before + length value },
      others,
      record {
        before = before;
        value = value;
        after = after;
        spaces = (space, space_after);
        valued = valued;
        whole = refl;
        from = refl;
        to = refl;
      },
      subst (λ n. TailLeft F n behind others) (sym place) tail,
      f,
      e ∙ ap (λ x. before ++ x) (w ∙ ap (λ x. value ++ x) v) ∙ sym (three_before before value after behind),
    )

pub element_apart : {I O : Type 0} (F : Frame I O) (IsInner : List ℕ → Type 0) (item : ℕ → ℕ → I)
    (at : ℕ) (text : List ℕ) (found : List O)
    → ElementThen F IsInner item at text found ↔ ValueLeft F IsInner item at text found
element_apart F IsInner item at text found =
    (element_value F IsInner item at text found, value_element F IsInner item at text found)

-- brackets around elements
abbrev pub elements : {O : Type 0} → (List ℕ → Type 0) → ℕ → (Span → List O → List O)
    → (ℕ → List ℕ → List O → Type 0) → Frame Span O
elements IsInner close note Behind =
    record { IsItem = IsElement IsInner; close = close; note = note; Behind = Behind }

pub elements_apart : {O : Type 0} (IsInner : List ℕ → Type 0) (close : ℕ) (note : Span → List O → List O)
    (Behind : ℕ → List ℕ → List O → Type 0) (at : ℕ) (text : List ℕ) (found : List O)
    → ItemsLeft (elements IsInner close note Behind) at text found
    ↔ ValueLeft (elements IsInner close note Behind) IsInner (λ from to. record { from = from; to = to })
    at text found
elements_apart IsInner close note Behind at text found =
    let F = elements IsInner close note Behind in
    let first = items_apart F at text found in
    let value = element_apart F IsInner (λ from to. record { from = from; to = to }) at text found in
    (λ x. value.0 (first.0 x), λ x. first.1 (value.1 x))
