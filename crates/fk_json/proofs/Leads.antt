-- Where a move leads: what is left before a byte is what is left behind it, with brackets in brackets.
use Rattle.std.proofs.Common.{◌≡◌, ◌↔◌, ℕ, suc, ◌+◌, List, [], ◌∷◌, ◌++◌, length, Some, refl, sym, subst}
use Rattle.std.proofs.lemmas.List.{append_assoc}
use Rattle.fk_json.specs.Json.{IsSpace, IsValue}
use Rattle.fk_json.specs.String.{IsString}
use Rattle.fk_json.specs.Tokens.{string_step}
use Rattle.fk_json.specs.Moves.{innermost, move_of}
use Rattle.fk_json.specs.Left.{Fits, Frame, IsNothing, Item, ModeLeft, Pending, WithinLeft, ended}
use Rattle.fk_json.specs.Remainder.{NameRest, frame_in, no_item, pending_in}
use Rattle.fk_json.specs.declared.mode.Bracket.{Bracket}
use Rattle.fk_json.specs.declared.mode.Bracket.TheVariants.{Array, Object}
use Rattle.fk_json.specs.declared.mode.Mode.{Mode}
use Rattle.fk_json.specs.declared.mode.Mode.TheVariants.{First, Next, Naming, Colon, Value, Within, After}
use Rattle.fk_json.specs.Moves.{Move}
use Rattle.fk_json.specs.Moves.{To}
use Rattle.fk_json.specs.declared.string_mode.StringMode.{StringMode}
use Rattle.fk_json.specs.Reached.{IsNamed}
use Rattle.fk_json.proofs.ValueSteps.{MoveLeft}
use Rattle.fk_json.proofs.Steps.{moves_right, none_ends}
use Rattle.fk_json.proofs.Equivalences.{same}
use Rattle.fk_json.proofs.StringLeft.{string_goes}

-- what is left between brackets, where so many levels may be open in the outermost
abbrev pub BetweenLeft : (outer : Bracket) → ℕ → List ℕ → Pending → List Bracket → Mode
    → ℕ → List ℕ → List (Item outer) → Type 0
BetweenLeft outer most front pending inner mode at text found =
    (levels : ℕ) × (levels + length inner ≡ most)
    × ModeLeft (innermost outer inner) (frame_in outer pending levels inner) (IsValue levels)
    (NameRest front inner mode) (pending_in inner pending) mode at text found

-- what is left behind a byte, by its move
abbrev pub MovedLeft : (outer : Bracket) → ℕ → List ℕ → Pending → List Bracket → Mode
    → ℕ → ℕ → List ℕ → List (Item outer) → Move → Type 0
MovedLeft outer most front pending inner mode at b text found move =
    (levels : ℕ) × (levels + length inner ≡ most)
    × MoveLeft (innermost outer inner) (frame_in outer pending levels inner) levels
    (NameRest front inner mode) (pending_in inner pending) b at text found move

-- what is left at each number of levels is left at the same number
pub levelled : {P Q : ℕ → Type 0} (count most : ℕ) → ((levels : ℕ) → P levels ↔ Q levels)
    → ((levels : ℕ) × (levels + count ≡ most) × P levels)
    ↔ ((levels : ℕ) × (levels + count ≡ most) × Q levels)
levelled count most f = (λ h. (h.0, h.1, (f h.0).0 h.2), λ h. (h.0, h.1, (f h.0).1 h.2))

-- ---- one byte

level_moves : (outer : Bracket) (front : List ℕ) (pending : Pending) (inner : List Bracket) (mode : Mode)
    (at b : ℕ) (text : List ℕ) (found : List (Item outer)) → Fits (innermost outer inner) mode
    → IsNamed mode (NameRest front inner mode) → (levels : ℕ)
    → (ModeLeft (innermost outer inner) (frame_in outer pending levels inner) (IsValue levels)
    (NameRest front inner mode) (pending_in inner pending) mode at (b ∷ text) found)
    ↔ (MoveLeft (innermost outer inner) (frame_in outer pending levels inner) levels
    (NameRest front inner mode) (pending_in inner pending) b at text found
    (move_of (innermost outer inner) mode b))
level_moves outer front pending [] mode at b text found fits named levels =
    moves_right outer levels (λ item others. item ∷ others) (λ at text found. IsSpace text × (found ≡ []))
    (NameRest front [] mode) pending mode at b text found fits named
level_moves outer front pending (c ∷ inner) mode at b text found fits named levels =
    moves_right c levels (λ item others. others)
    (λ at text found. WithinLeft (frame_in outer pending (suc levels) inner) IsNothing
    (ended (innermost outer inner) (pending_in inner pending)) at text found)
    (NameRest front (c ∷ inner) mode) no_item mode at b text found fits named

pub between_moves : (outer : Bracket) (most : ℕ) (front : List ℕ) (pending : Pending)
    (inner : List Bracket) (mode : Mode) (at b : ℕ) (text : List ℕ) (found : List (Item outer))
    → Fits (innermost outer inner) mode → IsNamed mode (NameRest front inner mode)
    → (BetweenLeft outer most front pending inner mode at (b ∷ text) found)
    ↔ (MovedLeft outer most front pending inner mode at b text found (move_of (innermost outer inner) mode b))
between_moves outer most front pending inner mode at b text found fits named =
    levelled (length inner) most (level_moves outer front pending inner mode at b text found fits named)

level_ends : (outer : Bracket) (front : List ℕ) (pending : Pending) (inner : List Bracket) (mode : Mode)
    (at : ℕ) (found : List (Item outer)) (levels : ℕ)
    → ¬ ModeLeft (innermost outer inner) (frame_in outer pending levels inner) (IsValue levels)
    (NameRest front inner mode) (pending_in inner pending) mode at [] found
level_ends outer front pending [] mode at found levels =
    none_ends outer levels (λ item others. item ∷ others) (λ at text found. IsSpace text × (found ≡ []))
    (NameRest front [] mode) pending mode at found
level_ends outer front pending (c ∷ inner) mode at found levels =
    none_ends c levels (λ item others. others)
    (λ at text found. WithinLeft (frame_in outer pending (suc levels) inner) IsNothing
    (ended (innermost outer inner) (pending_in inner pending)) at text found)
    (NameRest front (c ∷ inner) mode) no_item mode at found

pub between_ends : (outer : Bracket) (most : ℕ) (front : List ℕ) (pending : Pending)
    (inner : List Bracket) (mode : Mode) (at : ℕ) (found : List (Item outer))
    → ¬ BetweenLeft outer most front pending inner mode at [] found
between_ends outer most front pending inner mode at found h =
    level_ends outer front pending inner mode at found h.0 h.2

-- ---- to another mode

renamed : {O : Type 0} (bracket : Bracket) (F : Frame (Item bracket) O) (V : List ℕ → Type 0)
    (P Q : List ℕ → List ℕ → Type 0) (pending : Pending) (mode : Mode) (at : ℕ) (text : List ℕ)
    (found : List O) → ((next : StringMode) → mode ≡ Naming next → (rest name : List ℕ) → (P rest name) ↔ (Q rest name))
    → (ModeLeft bracket F V P pending mode at text found) ↔ (ModeLeft bracket F V Q pending mode at text found)
renamed bracket F V P Q pending First at text found f = same
renamed bracket F V P Q pending Next at text found f = same
renamed bracket F V P Q pending (Within token) at text found f = same
renamed bracket F V P Q pending After at text found f = same
renamed Array F V P Q pending (Naming next) at text found f = same
renamed Array F V P Q pending Colon at text found f = same
renamed Array F V P Q pending Value at text found f = same
renamed Object F V P Q pending (Naming next) at text found f = (
  λ (rest, behind, name, p, colon, e). (rest, behind, name, (f next refl rest name).0 p, colon, e),
  λ (rest, behind, name, q, colon, e). (rest, behind, name, (f next refl rest name).1 q, colon, e),
)
renamed Object F V P Q pending Colon at text found f = same
renamed Object F V P Q pending Value at text found f = same

-- a byte leads from the name's mode to this one
abbrev pub NameLeads : Mode → ℕ → Mode → Type 0
NameLeads mode b to = (next : StringMode) → to ≡ Naming next
    → (now : StringMode) × (mode ≡ Naming now) × (string_step now b ≡ Some next)

rest_grows : (front : List ℕ) (b : ℕ) (rest name : List ℕ)
    → (IsString (front ++ (b ∷ rest)) name) ↔ (IsString ((front ++ b ∷ []) ++ rest) name)
rest_grows front b rest name =
    let e = append_assoc front (b ∷ []) rest in
    (subst (λ x. IsString x name) (sym e), subst (λ x. IsString x name) e)

rest_leads : (front : List ℕ) (c : Bracket) (inner : List Bracket) (mode to : Mode) (b : ℕ)
    (now next : StringMode) → mode ≡ Naming now → to ≡ Naming next → string_step now b ≡ Some next
    → (rest name : List ℕ)
    → (NameRest front (c ∷ inner) mode (b ∷ rest) name) ↔ (NameRest (front ++ b ∷ []) (c ∷ inner) to rest name)
rest_leads front c inner mode to b now next is leads goes rest name =
    let goal = λ (one other : Mode). (NameRest front (c ∷ inner) one (b ∷ rest) name)
    ↔ (NameRest (front ++ b ∷ []) (c ∷ inner) other rest name) in
    subst (λ x. goal x to) (sym is) (subst (λ x. goal (Naming now) x) (sym leads) (string_goes now next b rest goes))

name_leads : (front : List ℕ) (inner : List Bracket) (mode to : Mode) (b : ℕ) → NameLeads mode b to
    → (next : StringMode) → to ≡ Naming next → (rest name : List ℕ)
    → (NameRest front inner mode (b ∷ rest) name) ↔ (NameRest (front ++ b ∷ []) inner to rest name)
name_leads front [] mode to b leads next is rest name = rest_grows front b rest name
name_leads front (c ∷ inner) mode to b leads next is rest name =
    let (now, was, goes) = leads next is in
    rest_leads front c inner mode to b now next was is goes rest name

pub to_left : (outer : Bracket) (most : ℕ) (front : List ℕ) (pending : Pending) (inner : List Bracket)
    (mode to : Mode) (at b : ℕ) (text : List ℕ) (found : List (Item outer)) → NameLeads mode b to
    → (MovedLeft outer most front pending inner mode at b text found (To to))
    ↔ (BetweenLeft outer most (front ++ b ∷ []) pending inner to (at + 1) text found)
to_left outer most front pending inner mode to at b text found leads =
    levelled (length inner) most (λ levels. renamed (innermost outer inner) (frame_in outer pending levels inner)
    (IsValue levels) (λ rest name. NameRest front inner mode (b ∷ rest) name)
    (NameRest (front ++ b ∷ []) inner to) (pending_in inner pending) to (at + 1) text found
    (name_leads front inner mode to b leads))
