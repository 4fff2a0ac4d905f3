-- What holds of each name's list holds again after the list of one name changed.
use Rattle.std.proofs.Common.{◌≡◌, ◌≢◌, ℕ, ◌<◌, Bool, true, false, List, [], ◌∷◌, ◌++◌, drop, map, sym, subst, refl, arith}
use Rattle.std.specs.Bool.{Decides}
use Rattle.std.specs.Prelude.{All, bytes_eq}
use Rattle.std.specs.List.{insert, remove}
use Rattle.std.specs.List.Sorted.{IsStrictlyIncreasing}
use Rattle.std.proofs.lemmas.Slice.Eq.{bytes_eq-Decides}
use Rattle.fk_model.specs.Orders.{number_in}
use Rattle.fk_lists.specs.Room.{Named, list_at}
use Rattle.fk_lists.specs.Places.{IsGap}
use Rattle.fk_lists.proofs.Rising.{last_increasing, more_increasing, less_increasing}

-- a choice between one name and the others
pub at_each : (P : List ℕ → Type 0) (name : List ℕ) → P name → ((other : List ℕ) → other ≢ name → P other)
    → (other : List ℕ) → P other
at_each P name here elsewhere other = chosen (bytes_eq other name) (bytes_eq-Decides other name)
  where
    chosen : (same : Bool) → Decides same (other ≡ name) → P other
    chosen true is = subst P (sym (is.0 refl)) here
    chosen false is = elsewhere other (λ same. absurd (cc (is.1 same)))

pub renewed : (P : List (ℕ × ℕ) → Type 0) (name : List ℕ) (before after : Named)
    → ((other : List ℕ) → P (list_at before other)) → P (list_at after name)
    → ((other : List ℕ) → other ≢ name → list_at after other ≡ list_at before other)
    → (other : List ℕ) → P (list_at after other)
renewed P name before after each here others =
    at_each (λ other. P (list_at after other)) name here
    (λ other differ. subst P (sym (others other differ)) (each other))

-- no name has a list
pub none_at : (P : List (ℕ × ℕ) → Type 0) (items : Named) → items ≡ [] → P [] → (name : List ℕ) → P (list_at items name)
unfolding list_at
none_at P items none empty name = subst (λ (held : Named). P (list_at held name)) (sym none) empty

-- ---- lists in order of first numbers stay so

abbrev pub AreRisingAll : Named → Type 0
AreRisingAll items = (name : List ℕ) → IsStrictlyIncreasing (map number_in (list_at items name))

-- the list of one name changed
pub record Changed (name : List ℕ) (list : List (ℕ × ℕ)) (before after : Named) : Type 0 where
  pub here : list_at after name ≡ list
  pub others : (other : List ℕ) → other ≢ name → list_at after other ≡ list_at before other

-- to one that is in order too
still_rising : (name : List ℕ) (list : List (ℕ × ℕ)) (before after : Named) → AreRisingAll before
    → IsStrictlyIncreasing (map number_in list) → Changed name list before after → AreRisingAll after
still_rising name list before after rising increasing changed =
    renewed (λ pairs. IsStrictlyIncreasing (map number_in pairs)) name before after rising
    (rw changed.here increasing) changed.others

-- by one pair more behind all
pub rising_with_last : (name : List ℕ) (pair : ℕ × ℕ) (before after : Named) → AreRisingAll before
    → All (λ other. number_in other < number_in pair) (list_at before name)
    → Changed name (list_at before name ++ pair ∷ []) before after → AreRisingAll after
rising_with_last name pair before after rising last changed =
    let held = list_at before name in
    still_rising name (held ++ pair ∷ []) before after rising (last_increasing held pair (rising name) last) changed

-- by one pair more at a gap
pub rising_with : (name : List ℕ) (pair : ℕ × ℕ) (at : ℕ) (before after : Named) → AreRisingAll before
    → IsGap (list_at before name) (number_in pair) at
    → Changed name (insert (list_at before name) at pair) before after → AreRisingAll after
rising_with name pair at before after rising gap changed =
    still_rising name (insert (list_at before name) at pair) before after rising
    (more_increasing (list_at before name) pair at (rising name) gap) changed

-- by one pair less
pub rising_without : (name : List ℕ) (at : ℕ) (before after : Named) → AreRisingAll before
    → Changed name (remove (list_at before name) at) before after → AreRisingAll after
rising_without name at before after rising changed =
    still_rising name (remove (list_at before name) at) before after rising
    (less_increasing (list_at before name) at (rising name)) changed

-- without the first pair
pub rising_without_first : (name : List ℕ) (before after : Named) → AreRisingAll before
    → Changed name (drop 1 (list_at before name)) before after → AreRisingAll after
rising_without_first name before after rising changed =
    still_rising name (drop 1 (list_at before name)) before after rising
    (rw (← remove_first) (less_increasing (list_at before name) 0 (rising name))) changed
  where
    remove_first : remove (list_at before name) 0 ≡ drop 1 (list_at before name)
    remove_first = refl

pub rising_none : (items : Named) → items ≡ [] → AreRisingAll items
rising_none items none =
    none_at (λ pairs. IsStrictlyIncreasing (map number_in pairs)) items none
    (λ k within. absurd (omega (arith, within)))
