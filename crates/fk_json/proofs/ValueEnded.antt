-- A value has ended between the outermost brackets: its item, and what is left behind it.
use Rattle.std.proofs.Common.{◌≡◌, ◌↔◌, ℕ, List, [], ◌∷◌, ◌++◌, length, drop, Some, refl, sym, ap, ◌∙◌}
use Rattle.fk_json.specs.Moves.{innermost, move_of}
use Rattle.fk_json.specs.Left.{Fits, Item, ended}
use Rattle.fk_json.specs.Standing.{found_in}
use Rattle.fk_json.specs.Remainder.{Adds, IsKnown, pending_of}
use Rattle.fk_json.specs.declared.mode.Bracket.{Bracket}
use Rattle.fk_json.specs.declared.mode.Bracket.TheVariants.{Array, Object}
use Rattle.fk_json.specs.declared.mode.Mode.{Mode}
use Rattle.fk_json.specs.declared.mode.Mode.TheVariants.{First, Next, Naming, Colon, Value, Within, After}
use Rattle.fk_json.specs.Moves.{Ended}
use Rattle.fk_json.specs.declared.standing.Places.{Places}
use Rattle.fk_json.specs.Reached.{Finds, IsPast, KnownBetween}
use Rattle.fk_json.proofs.Leads.{BetweenLeft, MovedLeft, between_moves}
use Rattle.fk_json.proofs.Stages.{Stage}
use Rattle.fk_json.proofs.Outcomes.{finds_same}
use Rattle.fk_json.proofs.Equivalences.{through}
use Rattle.fk_json.proofs.Strings.{one_value}
use Rattle.fk_json.proofs.Tame.{IsWithin, tame}
use Rattle.fk_json.proofs.KnownBetween.{Here, Known, MovesTo}

pub fits_after : (bracket : Bracket) → Fits bracket After
fits_after Array = tt
fits_after Object = tt

known_after : (outer : Bracket) (inner : List Bracket) (mode : Mode) (X : Type 0)
    → KnownBetween outer inner mode X → KnownBetween outer inner After X
known_after Array inner mode X known = tt
known_after Object [] mode X known = λ p. absurd p
known_after Object (c ∷ inner) mode X known = known

within_past : (mode : Mode) → IsWithin mode → IsPast mode
within_past First w = absurd w
within_past Next w = absurd w
within_past (Naming name) w = absurd w
within_past Colon w = absurd w
within_past Value w = absurd w
within_past (Within token) w = tt
within_past After w = absurd w

-- the item that has ended, where no inner bracket is open
item_added : (outer : Bracket) (done name : List ℕ) (places : Places) (mode : Mode) → IsWithin mode
    → KnownBetween outer [] mode (IsKnown done places name)
    → Adds outer done (Some (record { places = places; to = length done }))
    (ended outer (pending_of name places) (length done) ∷ [])
item_added Array done name places mode w known = (name, tt, refl)
item_added Object done name places mode w known = (name, known (within_past mode w), refl)

one_item : (outer : Bracket) (done name : List ℕ) (places : Places) (mode : Mode) (items : List (Item outer))
    → IsWithin mode → KnownBetween outer [] mode (IsKnown done places name)
    → Adds outer done (Some (record { places = places; to = length done })) items
    → items ≡ ended outer (pending_of name places) (length done) ∷ []
one_item Array done name places mode items w known adds = adds.2
one_item Object done name places mode items w known adds =
    adds.2 ∙ ap (λ x. ended Object (pending_of x places) (length done) ∷ [])
    (one_value _ adds.0 name adds.1.spelled (known (within_past mode w)).spelled)

ended_items : (outer : Bracket) (done name : List ℕ) (inner : List Bracket) (places : Places) (mode : Mode)
    → IsWithin mode → KnownBetween outer inner mode (IsKnown done places name)
    → (items : List (Item outer)) × Adds outer done (found_in inner (record { places = places; to = length done })) items
ended_items outer done name [] places mode w known =
    (ended outer (pending_of name places) (length done) ∷ [], item_added outer done name places mode w known)
ended_items outer done name (c ∷ inner) places mode w known = ([], refl)

ended_left : (outer : Bracket) (done name : List ℕ) (inner : List Bracket) (places : Places) (mode : Mode)
    (b : ℕ) (items : List (Item outer)) → IsWithin mode
    → KnownBetween outer inner mode (IsKnown done places name)
    → Adds outer done (found_in inner (record { places = places; to = length done })) items
    → (most : ℕ) (rest : List ℕ) (others : List (Item outer))
    → (MovedLeft outer most (drop places.name_from done) (pending_of name places) inner mode (length done) b rest
    others Ended)
    ↔ (Finds items (λ last. BetweenLeft outer most (drop places.name_from done) (pending_of name places) inner After
    (length done) (b ∷ rest) last) others)
ended_left outer done name [] places mode b items w known adds most rest others =
    let e = one_item outer done name places mode items w known adds in (
      λ (levels, l, (last, (after, is))). (last, is ∙ ap (λ x. x ++ last) (sym e), (levels, l, after)),
      λ (last, is, (levels, l, after)). (levels, l, (last, (after, is ∙ ap (λ x. x ++ last) e))),
    )
ended_left outer done name (c ∷ inner) places mode b items w known adds most rest others = (
  λ (levels, l, (last, (after, is))). (last, is ∙ ap (λ x. x ++ last) (sym adds), (levels, l, after)),
  λ (last, is, (levels, l, after)). (levels, l, (last, (after, is ∙ ap (λ x. x ++ last) adds))),
)

finds_through : {I : Type 0} (items : List I) (A : Type 0) (P Q : List I → Type 0) (others : List I)
    → A ↔ (Finds items P others) → ((last : List I) → (P last) ↔ (Q last)) → A ↔ (Finds items Q others)
finds_through items A P Q others f g = through f (finds_same items P Q others g)

pub ended_stage : (outer : Bracket) (done name : List ℕ) (inner : List Bracket) (places : Places) (mode : Mode)
    (b : ℕ) → Known outer done name inner places mode → MovesTo outer done name inner places mode b Ended
    → IsWithin mode
    → Stage outer (Here outer done name inner places mode b) done inner places After b
    (found_in inner (record { places = places; to = length done })) (move_of (innermost outer inner) After b)
ended_stage outer done name inner places mode b k moves within = record {
  name = name;
  open_few = k.open_few;
  name_within = k.name_within;
  named = tt;
  known = known_after outer inner mode (IsKnown done places name) k.known;
  tame = tame (innermost outer inner) After b (fits_after (innermost outer inner));
  has = ended_items outer done name inner places mode within k.known;
  left = λ items adds most rest others enough.
      finds_through items (Here outer done name inner places mode b most rest others)
      (λ last. BetweenLeft outer most (drop places.name_from done) (pending_of name places) inner After
      (length done) (b ∷ rest) last)
      (λ last. MovedLeft outer most (drop places.name_from done) (pending_of name places) inner After
      (length done) b rest last (move_of (innermost outer inner) After b)) others
      (through (moves most rest others)
      (ended_left outer done name inner places mode b items within k.known adds most rest others))
      (λ last. between_moves outer most (drop places.name_from done) (pending_of name places) inner After
      (length done) b rest last (fits_after (innermost outer inner)) tt);
}
