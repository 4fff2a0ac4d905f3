-- Where a name, a value or a bracket begins and where brackets close: what is left there.
use Rattle.std.proofs.Common.{◌≡◌, ◌↔◌, ℕ, zero, suc, ◌+◌, ◌≤◌, List, [], ◌∷◌, length, sym, subst, arith}
use Rattle.fk_json.specs.Json.{IsArray, IsObject, IsValue}
use Rattle.fk_json.specs.String.{IsString}
use Rattle.fk_json.specs.Moves.{innermost, opening}
use Rattle.fk_json.specs.Left.{FirstLeft, Frame, IsNothing, Item, Pending, WithinLeft, ended, nested, outermost}
use Rattle.fk_json.specs.Standing.{placed}
use Rattle.fk_json.specs.Remainder.{frame_in, no_item, pending_in, pending_of}
use Rattle.fk_json.specs.declared.member.Member.{Member}
use Rattle.fk_json.specs.declared.span.Span.{Span}
use Rattle.fk_json.specs.declared.mode.Bracket.{Bracket}
use Rattle.fk_json.specs.declared.mode.Bracket.TheVariants.{Array, Object}
use Rattle.fk_json.specs.declared.mode.Mode.{Mode}
use Rattle.fk_json.specs.declared.mode.Mode.TheVariants.{First, Naming, Within}
use Rattle.fk_json.specs.Moves.{Names, Begins, Opens, Closes}
use Rattle.fk_json.specs.declared.standing.Places.{Places}
use Rattle.fk_json.specs.declared.string_mode.StringMode.TheVariants.{Inside}
use Rattle.fk_json.specs.declared.token.Token.{Token}
use Rattle.fk_json.specs.declared.token.Token.TheVariants.{Bracketed}
use Rattle.fk_json.proofs.Opened.{array_opened, object_opened}
use Rattle.fk_json.proofs.Equivalences.{same, through}
use Rattle.fk_json.proofs.StringLeft.{string_begins}
use Rattle.fk_json.proofs.Values.{value_array, value_flat, value_object}
use Rattle.fk_json.proofs.Leads.{BetweenLeft, MovedLeft, levelled}

-- ---- a name begins

-- the pending item, with places that are noted where no inner bracket is open
abbrev pub pending_at : List Bracket → List ℕ → Places → Places → Pending
pending_at inner name noted places = pending_of name (placed inner noted places)

abbrev IsAnObject : Bracket → Type 0
IsAnObject Array = ⊥
IsAnObject Object = Unit {0}

no_object : ¬ (Array ≡ Object)
no_object e = subst IsAnObject (sym e) tt

pub names_left : (most : ℕ) (outer : Bracket) (front name : List ℕ) (places : Places)
    (inner : List Bracket) (mode : Mode) (at b : ℕ) (text : List ℕ) (found : List (Item outer))
    → innermost outer inner ≡ Object → b ≡ 34
    → (MovedLeft outer most front (pending_of name places) inner mode at b text found Names)
    ↔ (BetweenLeft outer most (b ∷ []) (pending_at inner name (record places { name_from = at }) places)
    inner (Naming Inside) (at + 1) text found)
names_left most Array front name places [] mode at b text found object quote =
    absurd (no_object object)
names_left most Object front name places [] mode at b text found object quote = same
names_left most outer front name places (Array ∷ inner) mode at b text found object quote =
    absurd (no_object object)
names_left most outer front name places (Object ∷ inner) mode at b text found object quote =
    levelled (suc (length inner)) most (λ levels. (
      λ (rest, behind, value, p, colon, e). (
        rest,
        behind,
        value,
        (string_begins rest).0 (value, subst (λ x. IsString (x ∷ rest) value) quote p),
        colon,
        e,
      ),
      λ (rest, behind, value, q, colon, e).
          let named = (string_begins rest).1 q in
          (rest, behind, named.0, subst (λ x. IsString (x ∷ rest) named.0) (sym quote) named.1, colon, e),
    ))

-- ---- a value begins

pub begins_left : (outer : Bracket) (most : ℕ) (front grown name : List ℕ) (places : Places)
    (inner : List Bracket) (mode : Mode) (token : Token) (at b : ℕ) (text : List ℕ)
    (found : List (Item outer))
    → (MovedLeft outer most front (pending_of name places) inner mode at b text found (Begins token))
    ↔ (BetweenLeft outer most grown (pending_at inner name (record places { from = at }) places)
    inner (Within token) (at + 1) text found)
begins_left outer most front grown name places [] mode token at b text found = same
begins_left outer most front grown name places (c ∷ inner) mode token at b text found = same

-- ---- brackets open

abbrev BracketRest : Bracket → ℕ → List ℕ → Type 0
BracketRest Array levels rest = (elements : List Span) × IsArray (IsValue levels) 0 (91 ∷ rest) elements
BracketRest Object levels rest = (members : List Member) × IsObject (IsValue levels) 0 (123 ∷ rest) members

-- values that begin with a bracket
bracket_begins : (c : Bracket) (levels : ℕ) (rest : List ℕ)
    → (IsValue (suc levels) (opening c ∷ rest)) ↔ (BracketRest c levels rest)
bracket_begins Array levels rest = value_array levels rest
bracket_begins Object levels rest = value_object levels rest

bracket_opened : {I O : Type 0} (F : Frame I O) (item : ℕ → I) (c : Bracket) (levels at : ℕ)
    (text : List ℕ) (found : List O)
    → (WithinLeft F (BracketRest c levels) item at text found) ↔ (FirstLeft (nested F item c levels) at text found)
bracket_opened F item Array levels at text found = array_opened F item levels at text found
bracket_opened F item Object levels at text found = object_opened F item levels at text found

within_same : {I O : Type 0} (F : Frame I O) (L M : List ℕ → Type 0) (item : ℕ → I) (at : ℕ)
    (text : List ℕ) (found : List O) → ((rest : List ℕ) → (L rest) ↔ (M rest))
    → (WithinLeft F L item at text found) ↔ (WithinLeft F M item at text found)
within_same F L M item at text found f = (
  λ (rest, behind, others, l, after, is, e). (rest, behind, others, (f rest).0 l, after, is, e),
  λ (rest, behind, others, m, after, is, e). (rest, behind, others, (f rest).1 m, after, is, e),
)

within_flat : {I O : Type 0} (F : Frame I O) (c : Bracket) (item : ℕ → I) (at : ℕ) (text : List ℕ)
    (found : List O) → ¬ WithinLeft F (λ rest. IsValue zero (opening c ∷ rest)) item at text found
within_flat F Array item at text found h = (value_flat h.0).0 h.3
within_flat F Object item at text found h = (value_flat h.0).1 h.3

within_opens : {I O : Type 0} (F : Frame I O) (c : Bracket) (item : ℕ → I) (levels at : ℕ)
    (text : List ℕ) (found : List O)
    → (WithinLeft F (λ rest. IsValue (suc levels) (opening c ∷ rest)) item at text found)
    ↔ (FirstLeft (nested F item c levels) at text found)
within_opens F c item levels at text found =
    through (within_same F (λ rest. IsValue (suc levels) (opening c ∷ rest)) (BracketRest c levels) item at text found
    (bracket_begins c levels)) (bracket_opened F item c levels at text found)

opens_by : {I O : Type 0} (F : ℕ → Frame I O) (c : Bracket) (item : ℕ → I) (count most at : ℕ)
    (text : List ℕ) (found : List O) (levels : ℕ) → levels + count ≡ most
    → WithinLeft (F levels) (λ rest. IsValue levels (opening c ∷ rest)) item at text found
    → (less : ℕ) × (less + suc count ≡ most) × FirstLeft (nested (F (suc less)) item c less) at text found
opens_by F c item count most at text found zero e h = absurd (within_flat (F zero) c item at text found h)
opens_by F c item count most at text found (suc less) e h =
    (less, omega (arith, e), (within_opens (F (suc less)) c item less at text found).0 h)

opens_in : {I O : Type 0} (F : ℕ → Frame I O) (c : Bracket) (item : ℕ → I) (count most at : ℕ)
    (text : List ℕ) (found : List O)
    → ((levels : ℕ) × (levels + count ≡ most)
    × WithinLeft (F levels) (λ rest. IsValue levels (opening c ∷ rest)) item at text found)
    ↔ ((less : ℕ) × (less + suc count ≡ most) × FirstLeft (nested (F (suc less)) item c less) at text found)
opens_in F c item count most at text found = (
  λ h. opens_by F c item count most at text found h.0 h.1 h.2,
  λ h. (suc h.0, omega (arith, h.1), (within_opens (F (suc h.0)) c item h.0 at text found).1 h.2),
)

pub opens_left : (outer : Bracket) (most : ℕ) (front grown name : List ℕ) (places : Places)
    (inner : List Bracket) (mode : Mode) (c : Bracket) (at b : ℕ) (text : List ℕ)
    (found : List (Item outer))
    → (MovedLeft outer most front (pending_of name places) inner mode at b text found (Opens c))
    ↔ (BetweenLeft outer most grown (pending_at inner name (record places { from = at }) places)
    (c ∷ inner) First (at + 1) text found)
opens_left outer most front grown name places [] mode c at b text found =
    opens_in (outermost outer) c (ended outer (pending_of name (record places { from = at }))) 0 most (at + 1) text found
opens_left outer most front grown name places (d ∷ inner) mode c at b text found =
    opens_in (λ levels. frame_in outer (pending_of name places) levels (d ∷ inner)) c (ended d no_item)
    (suc (length inner)) most (at + 1) text found

-- no bracket opens where no level is left
pub opens_none : (outer : Bracket) (most : ℕ) (front : List ℕ) (pending : Pending)
    (inner : List Bracket) (mode : Mode) (c : Bracket) (at b : ℕ) (text : List ℕ)
    (found : List (Item outer)) → most ≤ length inner
    → ¬ MovedLeft outer most front pending inner mode at b text found (Opens c)
opens_none outer most front pending inner mode c at b text found full h =
    let none : h.0 ≡ zero = omega (arith, h.1, full) in
    within_flat (frame_in outer pending h.0 inner) c
    (ended (innermost outer inner) (record (pending_in inner pending) { from = at })) (at + 1) text found
    (subst (λ n. WithinLeft (frame_in outer pending h.0 inner) (λ rest. IsValue n (opening c ∷ rest))
    (ended (innermost outer inner) (record (pending_in inner pending) { from = at })) (at + 1) text found) none h.2)

-- ---- brackets close

closes_by : (outer : Bracket) (most : ℕ) (front : List ℕ) (pending : Pending) (c : Bracket)
    (inner : List Bracket) (mode : Mode) (at b : ℕ) (text : List ℕ) (found : List (Item outer))
    → suc (length inner) ≤ most → (levels : ℕ) → levels + length inner ≡ most
    → WithinLeft (frame_in outer pending levels inner) IsNothing
    (ended (innermost outer inner) (pending_in inner pending)) (at + 1) text found
    → MovedLeft outer most front pending (c ∷ inner) mode at b text found Closes
closes_by outer most front pending c inner mode at b text found room zero e h = absurd (omega (arith, room, e))
closes_by outer most front pending c inner mode at b text found room (suc less) e h =
    (less, omega (arith, e), h)

pub closes_inner : (outer : Bracket) (most : ℕ) (front grown : List ℕ) (pending : Pending) (c : Bracket)
    (inner : List Bracket) (mode : Mode) (at b : ℕ) (text : List ℕ) (found : List (Item outer))
    → suc (length inner) ≤ most
    → (MovedLeft outer most front pending (c ∷ inner) mode at b text found Closes)
    ↔ (BetweenLeft outer most grown pending inner (Within Bracketed) (at + 1) text found)
closes_inner outer most front grown pending c inner mode at b text found room = (
  λ h. (suc h.0, omega (arith, h.1), h.2),
  λ h. closes_by outer most front pending c inner mode at b text found room h.0 h.1 h.2,
)
