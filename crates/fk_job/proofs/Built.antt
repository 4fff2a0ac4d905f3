-- Pieces with commas between them are the members of an object, at their places.
use Rattle.std.proofs.Common.{◌≡◌, inr, ℕ, suc, ◌+◌, List, [], ◌∷◌, ◌++◌, length, codes, slice_range, refl, sym, ap, ap₂, ◌∙◌, arith}
use Rattle.std.proofs.lemmas.List.{append_assoc, append-nil, length-append}
use Rattle.std.specs.List.{AllByRecursion, join_with_byte}
use Rattle.fk_json.specs.String.{IsString}
use Rattle.fk_json.specs.Json.{AreJoined, IsArray, IsElement, IsMember, IsObject, IsObjectText, IsValue}
use Rattle.fk_json.specs.Members.{IsMemberIn}
use Rattle.fk_json.specs.declared.member.Member.{Member}
use Rattle.fk_json.specs.declared.span.Span.{Span}
use Rattle.fk_json.proofs.MemberPlaces.{slice_part}
use Rattle.fk_job.proofs.Pieces.{Piece, joined, piece_in, piece_text, pieces_in}

-- a string, and a value of at most so many levels
pub record IsPiece (levels : ℕ) (piece : Piece) : Type 0 where
  pub named : IsString piece.spelled piece.name
  pub valued : IsValue levels piece.value

-- ---- the members of pieces

abbrev pub member_at : ℕ → Piece → Member
member_at at piece = record {
  name = piece.name;
  name_from = at;
  name_to = at + length piece.spelled;
  from = at + length piece.spelled + 1;
  to = at + length piece.spelled + 1 + length piece.value;
}

abbrev pub members_of : ℕ → List Piece → List Member
members_of at [] = []
members_of at (piece ∷ pieces) = member_at at piece ∷ members_of (at + length (piece_text piece) + 1) pieces

bare : (text : List ℕ) → text ≡ [] ++ text ++ []
bare text = sym (append-nil text)

bare_member : (spelled value : List ℕ)
    → spelled ++ codes ":" ++ value ≡ [] ++ spelled ++ [] ++ codes ":" ++ value
bare_member spelled value = ap (λ x. x ++ codes ":" ++ value) (bare spelled)

is_member : (levels at : ℕ) (piece : Piece) → IsPiece levels piece
    → IsMember (IsValue levels) at (piece_text piece) (member_at at piece)
is_member levels at piece is = record {
  before = [];
  name = piece.spelled;
  after = [];
  rest = piece.value;
  spaces = (refl, refl);
  spelled = is.named;
  valued = record {
    before = [];
    value = piece.value;
    after = [];
    spaces = (refl, refl);
    valued = is.valued;
    whole = bare piece.value;
    from = omega arith;
    to = refl;
  };
  whole = bare_member piece.spelled piece.value;
  from = omega arith;
  to = refl;
}

are_members : (levels at : ℕ) (piece : Piece) (pieces : List Piece) → AllByRecursion (IsPiece levels) (piece ∷ pieces)
    → AreJoined (IsMember (IsValue levels)) at (joined (piece ∷ pieces)) (members_of at (piece ∷ pieces))
are_members levels at piece [] each = is_member levels at piece each.0
are_members levels at piece (next ∷ pieces) each = (
  piece_text piece,
  joined (next ∷ pieces),
  is_member levels at piece each.0,
  are_members levels (at + length (piece_text piece) + 1) next pieces each.1,
  sym (append_assoc (piece_text piece) (codes ",") (joined (next ∷ pieces))),
)

-- pieces between braces
abbrev pub object_of : List Piece → List ℕ
object_of pieces = codes "{" ++ joined pieces ++ codes "}"

pub is_object : (levels at : ℕ) (piece : Piece) (pieces : List Piece) → AllByRecursion (IsPiece levels) (piece ∷ pieces)
    → IsObject (IsValue levels) at (object_of (piece ∷ pieces)) (members_of (at + 1) (piece ∷ pieces))
is_object levels at piece pieces each =
    (joined (piece ∷ pieces), inr (are_members levels (at + 1) piece pieces each), refl)

pub is_object_text : (levels : ℕ) (piece : Piece) (pieces : List Piece)
    → AllByRecursion (IsPiece levels) (piece ∷ pieces)
    → IsObjectText (suc levels) (object_of (piece ∷ pieces)) (members_of 1 (piece ∷ pieces))
is_object_text levels piece pieces each = record {
  before = [];
  part = object_of (piece ∷ pieces);
  after = [];
  spaces = (refl, refl);
  shaped = is_object levels 0 piece pieces each;
  whole = bare (object_of (piece ∷ pieces));
}

-- ---- the pieces of those members

name_place : (front spelled value more : List ℕ)
    → front ++ ((spelled ++ codes ":" ++ value) ++ more) ≡ front ++ (spelled ++ (codes ":" ++ value ++ more))
name_place front spelled value more = simp append_assoc refl

value_place : (front spelled value more : List ℕ)
    → front ++ ((spelled ++ codes ":" ++ value) ++ more) ≡ (front ++ spelled ++ codes ":") ++ (value ++ more)
value_place front spelled value more = simp append_assoc refl

length_front : (front spelled : List ℕ) → length (front ++ spelled ++ codes ":") ≡ length front + length spelled + 1
length_front front spelled = omega (arith, length-append (front ++ spelled) (codes ":"), length-append front spelled)

slice_at : (text front piece more : List ℕ) (from to : ℕ) → text ≡ front ++ (piece ++ more) → from ≡ length front
    → to ≡ from + length piece → slice_range text from to ≡ piece
slice_at text front piece more from to e f t = rw (e, t, f) (slice_part front piece more)

made : (piece : Piece) (spelled value : List ℕ) → spelled ≡ piece.spelled → value ≡ piece.value
    → record { spelled = spelled; name = piece.name; value = value } ≡ piece
made piece spelled value e f = rw (e, f) refl

same_piece : (text front more : List ℕ) (at : ℕ) (piece : Piece) → text ≡ front ++ (piece_text piece ++ more)
    → at ≡ length front → piece_in text (member_at at piece) ≡ piece
same_piece text front more at piece e place =
    let name = slice_at text front piece.spelled (codes ":" ++ piece.value ++ more) at (at + length piece.spelled)
    (e ∙ name_place front piece.spelled piece.value more) place refl in
    let value = slice_at text (front ++ piece.spelled ++ codes ":") piece.value more (at + length piece.spelled + 1)
    (at + length piece.spelled + 1 + length piece.value)
    (e ∙ value_place front piece.spelled piece.value more)
    (omega (arith, place, length_front front piece.spelled)) refl in
    made piece _ _ name value

after_first : (front piece rest back : List ℕ)
    → front ++ ((piece ++ (44 ∷ rest)) ++ back) ≡ (front ++ piece ++ codes ",") ++ (rest ++ back)
after_first front piece rest back = simp append_assoc refl

first_of : (front piece rest back : List ℕ)
    → front ++ ((piece ++ (44 ∷ rest)) ++ back) ≡ front ++ (piece ++ (44 ∷ (rest ++ back)))
first_of front piece rest back = simp append_assoc refl

same_pieces : (text front back : List ℕ) (at : ℕ) (pieces : List Piece) → text ≡ front ++ (joined pieces ++ back)
    → at ≡ length front → pieces_in text (members_of at pieces) ≡ pieces
same_pieces text front back at [] e place = refl
same_pieces text front back at (piece ∷ []) e place =
    ap (λ p. p ∷ []) (same_piece text front back at piece e place)
same_pieces text front back at (piece ∷ next ∷ pieces) e place =
    ap₂ (λ p ps. p ∷ ps)
    (same_piece text front (44 ∷ (joined (next ∷ pieces) ++ back)) at piece
    (e ∙ first_of front (piece_text piece) (joined (next ∷ pieces)) back) place)
    (same_pieces text (front ++ piece_text piece ++ codes ",") back (at + length (piece_text piece) + 1) (next ∷ pieces)
    (e ∙ after_first front (piece_text piece) (joined (next ∷ pieces)) back)
    (omega (arith, place, length-append (front ++ piece_text piece) (codes ","), length-append front (piece_text piece))))

pub object_pieces : (pieces : List Piece) → pieces_in (object_of pieces) (members_of 1 pieces) ≡ pieces
object_pieces pieces =
    same_pieces (object_of pieces) (codes "{") (codes "}") 1 pieces
    (append_assoc (codes "{") (joined pieces) (codes "}")) refl

-- ---- the pieces of the members of a text

pub piece_is : (levels : ℕ) (text : List ℕ) (member : Member) → IsMemberIn levels text member
    → IsPiece levels (piece_in text member)
piece_is levels text member is = record { named = is.named; valued = is.valued }

pub pieces_are : (levels : ℕ) (text : List ℕ) (members : List Member) → AllByRecursion (IsMemberIn levels text) members
    → AllByRecursion (IsPiece levels) (pieces_in text members)
pieces_are levels text [] each = tt
pieces_are levels text (member ∷ members) each =
    (piece_is levels text member each.0, pieces_are levels text members each.1)

-- ---- values with commas between them are the elements of an array, at their places

abbrev spans_of : ℕ → List (List ℕ) → List Span
spans_of at [] = []
spans_of at (value ∷ values) = record { from = at; to = at + length value } ∷ spans_of (at + length value + 1) values

is_element : (levels at : ℕ) (value : List ℕ) → IsValue levels value
    → IsElement (IsValue levels) at value (record { from = at; to = at + length value })
is_element levels at value is = record {
  before = [];
  value = value;
  after = [];
  spaces = (refl, refl);
  valued = is;
  whole = bare value;
  from = omega arith;
  to = refl;
}

are_elements : (levels at : ℕ) (value : List ℕ) (values : List (List ℕ))
    → AllByRecursion (IsValue levels) (value ∷ values)
    → AreJoined (IsElement (IsValue levels)) at (join_with_byte 44 (value ∷ values)) (spans_of at (value ∷ values))
are_elements levels at value [] each = is_element levels at value each.0
are_elements levels at value (next ∷ values) each = (
  value,
  join_with_byte 44 (next ∷ values),
  is_element levels at value each.0,
  are_elements levels (at + length value + 1) next values each.1,
  sym (append_assoc value (codes ",") (join_with_byte 44 (next ∷ values))),
)

abbrev pub array_of : List (List ℕ) → List ℕ
array_of values = codes "[" ++ join_with_byte 44 values ++ codes "]"

pub is_array : (levels : ℕ) (value : List ℕ) (values : List (List ℕ)) → AllByRecursion (IsValue levels) (value ∷ values)
    → (elements : List Span) × IsArray (IsValue levels) 0 (array_of (value ∷ values)) elements
is_array levels value values each =
    (spans_of 1 (value ∷ values), (join_with_byte 44 (value ∷ values), inr (are_elements levels 1 value values each), refl))
