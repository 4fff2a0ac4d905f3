-- A member that is sent as it stands in the text.
use Rattle.std.proofs.Common.{◌≡◌, ℕ, ◌+◌, ◌-◌, ◌<◌, ◌≤◌, suc, List, ◌∷◌, ◌++◌, codes, length, drop, take, slice_range, slice_index, refl, sym, ap, ◌∙◌, arith}
use Rattle.std.proofs.lemmas.List.{append_assoc, drop_more, length-drop, length-take}
use Rattle.std.proofs.lemmas.List.Folds.{drop_split}
use Rattle.std.proofs.Math.Seq.{take-append-add}
use Rattle.fk_json.specs.declared.member.Member.{Member}
use Rattle.fk_json.specs.Members.{IsMemberIn, inner_levels}
use Rattle.fk_job.specs.Pieces.{IsBehindComma, IsCloseIn}

-- a part of a text is its first byte and the rest
pub slice_first : (text : List ℕ) (at to : ℕ) → at < to → to ≤ length text
    → slice_range text at to ≡ slice_index text at ∷ slice_range text (at + 1) to
slice_first text at to some inside =
    let left : to - at ≡ suc (to - (at + 1)) = omega arith in
    rw (left, drop_more text at 0 (omega arith)) refl

-- a part of a text up to a place, and from there on
pub slice_two : (text : List ℕ) (from at to : ℕ) → from ≤ at → at ≤ to → to ≤ length text
    → slice_range text from to ≡ slice_range text from at ++ slice_range text at to
slice_two text from at to before behind inside =
    let long : length (slice_range text from at) ≡ at - from
    = omega (arith, length-take (at - from) (drop from text), length-drop from text) in
    let left : to - from ≡ length (slice_range text from at) + (to - at) = omega (arith, long) in
    ap (λ l. take (to - from) l) (drop_split text from at before)
    ∙ ap (λ n. take n (slice_range text from at ++ drop at text)) left
    ∙ take-append-add (slice_range text from at) (drop at text) (to - at)

pub is_close : (text : List ℕ) (member : Member) → IsMemberIn inner_levels text member → member.from ≡ member.name_to + 1
    → slice_index text member.name_to ≡ 58 → IsCloseIn text member
is_close text member is next colon =
    let before = is.name_ordered in
    let ordered = is.ordered in
    let inside = is.within in
    record {
      ordered = omega (arith, before, ordered, next);
      whole = slice_two text member.name_from member.name_to member.to before (omega (arith, ordered, next)) inside
          ∙ ap (λ l. slice_range text member.name_from member.name_to ++ l)
          (slice_first text member.name_to member.to (omega (arith, ordered, next)) inside
          ∙ ap (λ c. c ∷ slice_range text (member.name_to + 1) member.to) colon
          ∙ ap (λ n. 58 ∷ slice_range text n member.to) (sym next))
          ∙ sym (append_assoc (slice_range text member.name_from member.name_to) (codes ":") (slice_range text member.from member.to));
    }

pub behind_comma : (text : List ℕ) (member : Member) → member.name_from ≤ member.to → member.to ≤ length text
    → 0 < member.name_from → slice_index text (member.name_from - 1) ≡ 44 → IsBehindComma text member
behind_comma text member ordered inside some comma =
    let next : member.name_from - 1 + 1 ≡ member.name_from = omega (arith, some) in
    record {
      inside = some;
      whole = slice_first text (member.name_from - 1) member.to (omega (arith, some, ordered)) inside
          ∙ ap (λ c. c ∷ slice_range text (member.name_from - 1 + 1) member.to) comma
          ∙ ap (λ n. 44 ∷ slice_range text n member.to) next;
    }
