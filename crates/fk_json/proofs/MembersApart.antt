-- What is left of members, taken apart into a name, a value and what stands behind them.
use Rattle.std.proofs.Common.{◌≡◌, ◌↔◌, ℕ, ◌+◌, List, [], ◌∷◌, ◌++◌, length, refl, sym, ap, subst, ◌∙◌, arith}
use Rattle.std.proofs.lemmas.List.{append_assoc, length-append}
use Rattle.fk_json.specs.String.{IsString}
use Rattle.fk_json.specs.Json.{IsMember, value_span}
use Rattle.fk_json.specs.Left.{Frame, Spaced, ItemsLeft, TailLeft, ValueLeft, NameLeft}
use Rattle.fk_json.specs.declared.member.Member.{Member}
use Rattle.fk_json.proofs.Items.{items_apart}
use Rattle.fk_json.proofs.ElementsApart.{element_value, length_three, three_before, value_element}

-- brackets around members
abbrev pub members : {O : Type 0} → (List ℕ → Type 0) → ℕ → (Member → List O → List O)
    → (ℕ → List ℕ → List O → Type 0) → Frame Member O
members IsInner close note Behind =
    record { IsItem = IsMember IsInner; close = close; note = note; Behind = Behind }

-- the member of a name, its place and the place of its value
abbrev pub named : List ℕ → ℕ → ℕ → ℕ → ℕ → Member
named name name_from name_to from to =
    record { name = name; name_from = name_from; name_to = name_to; from = from; to = to }

-- a name and what is left behind it, after white space
abbrev pub NameFirst : {O : Type 0} → Frame Member O → (List ℕ → Type 0) → ℕ → List ℕ → List O → Type 0
NameFirst F IsInner at text found =
    Spaced (λ place rest. NameLeft F IsInner IsString place place rest found) at text

-- a member, and what is left behind it
abbrev pub MemberThen : {O : Type 0} → Frame Member O → (List ℕ → Type 0) → ℕ → List ℕ → List O → Type 0
MemberThen {O} F IsInner at text found =
    (piece behind : List ℕ) × (member : Member) × (others : List O) × IsMember IsInner at piece member
    × TailLeft F (at + length piece) behind others × (found ≡ F.note member others)
    × (text ≡ piece ++ behind)

four_before : (x y z rest behind : List ℕ)
    → (x ++ y ++ z ++ (58 ∷ []) ++ rest) ++ behind ≡ x ++ (y ++ (z ++ 58 ∷ (rest ++ behind)))
four_before x y z rest behind =
    append_assoc (x ++ y ++ z ++ (58 ∷ [])) rest behind
    ∙ append_assoc (x ++ y ++ z) (58 ∷ []) (rest ++ behind)
    ∙ three_before x y z (58 ∷ (rest ++ behind))

place_four : (at : ℕ) (piece x y z rest : List ℕ) → piece ≡ x ++ y ++ z ++ (58 ∷ []) ++ rest
    → at + length piece ≡ at + length x + length y + length z + 1 + length rest
place_four at piece x y z rest e =
    omega (
      arith,
      ap length e,
      length-append (x ++ y ++ z ++ (58 ∷ [])) rest,
      length-append (x ++ y ++ z) (58 ∷ []),
      length_three x y z,
    )

member_name : {O : Type 0} (F : Frame Member O) (IsInner : List ℕ → Type 0)
    (at : ℕ) (text : List ℕ) (found : List O)
    → MemberThen F IsInner at text found → NameFirst F IsInner at text found
member_name F IsInner at text found (piece, behind, member, others, h, tail, f, e) =
    let from = at + length h.before in
    let to = from + length h.name in
    let until : member.name_to ≡ to = h.to ∙ ap (λ n. n + length h.name) h.from in
    let text_left = h.rest ++ behind in
    let place = place_four at piece h.before h.name h.after h.rest h.whole
    ∙ ap (λ n. n + length h.after + 1 + length h.rest) (sym until) in
    let there = subst (λ n. TailLeft F n behind others) place tail in
    let value = element_value F IsInner (named member.name member.name_from member.name_to)
    (member.name_to + length h.after + 1) text_left found
    (h.rest, behind, value_span member, others, h.valued, there, f, refl) in
    let value_from = subst (λ n. ValueLeft F IsInner (named member.name n member.name_to)
    (member.name_to + length h.after + 1) text_left found) h.from value in
    let value_to = subst (λ n. ValueLeft F IsInner (named member.name from n)
    (n + length h.after + 1) text_left found) until value_from in (
      h.before,
      h.name ++ (h.after ++ 58 ∷ text_left),
      h.spaces.0,
      (
        h.name,
        h.after ++ 58 ∷ text_left,
        member.name,
        h.spelled,
        (h.after, 58 ∷ text_left, h.spaces.1, (text_left, value_to, refl), refl),
        refl,
      ),
      e ∙ ap (λ x. x ++ behind) h.whole ∙ four_before h.before h.name h.after h.rest behind,
    )

name_member : {O : Type 0} (F : Frame Member O) (IsInner : List ℕ → Type 0)
    (at : ℕ) (text : List ℕ) (found : List O)
    → NameFirst F IsInner at text found → MemberThen F IsInner at text found
name_member F IsInner at text found
    (before, rest, space, (spelled_name, more, name, spelled, after_name, u), e) =
    let (after, colon, space_after, (text_left, value, w), v) = after_name in
    let from = at + length before in
    let to = from + length spelled_name in
    let (piece, behind, span, others, element, tail, f, t) = value_element F IsInner (named name from to)
    (to + length after + 1) text_left found value in
    let whole = before ++ spelled_name ++ after ++ (58 ∷ []) ++ piece in
    let place = place_four at whole before spelled_name after piece refl in (
      whole,
      behind,
      named name from to span.from span.to,
      others,
      record {
        before = before;
        name = spelled_name;
        after = after;
        rest = piece;
        spaces = (space, space_after);
        spelled = spelled;
        valued = element;
        whole = refl;
        from = refl;
        to = refl;
      },
      subst (λ n. TailLeft F n behind others) (sym place) tail,
      f,
      e ∙ ap (λ x. before ++ x) (u ∙ ap (λ x. spelled_name ++ x)
          (v ∙ ap (λ x. after ++ x) (w ∙ ap (λ x. 58 ∷ x) t)))
          ∙ sym (four_before before spelled_name after piece behind),
    )

pub member_apart : {O : Type 0} (F : Frame Member O) (IsInner : List ℕ → Type 0)
    (at : ℕ) (text : List ℕ) (found : List O)
    → MemberThen F IsInner at text found ↔ NameFirst F IsInner at text found
member_apart F IsInner at text found =
    (member_name F IsInner at text found, name_member F IsInner at text found)

pub members_apart : {O : Type 0} (IsInner : List ℕ → Type 0) (close : ℕ) (note : Member → List O → List O)
    (Behind : ℕ → List ℕ → List O → Type 0) (at : ℕ) (text : List ℕ) (found : List O)
    → ItemsLeft (members IsInner close note Behind) at text found
    ↔ Spaced (λ place rest.
    NameLeft (members IsInner close note Behind) IsInner IsString place place rest found) at text
members_apart IsInner close note Behind at text found =
    let F = members IsInner close note Behind in
    let first = items_apart F at text found in
    let name = member_apart F IsInner at text found in
    (λ x. name.0 (first.0 x), λ x. first.1 (name.1 x))
