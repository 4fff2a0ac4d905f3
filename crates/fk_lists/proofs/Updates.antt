-- What callers see after the list of one name was put, changed or taken out.
use Rattle.std.proofs.Common.{◌≡◌, ◌∙◌, ◌≢◌, ◌≤◌, ℕ, Bool, true, false, List, Option, refl, sym, ap, arith}
use Rattle.std.specs.Prelude.{bytes_eq, cond}
use Rattle.std.proofs.lemmas.Bool.{false_from_ne_true}
use Rattle.std.proofs.lemmas.Map.Text.{is_eq-slice_cmp}
use Rattle.std.proofs.lemmas.Slice.Eq.{bytes_eq-Decides}
use Rattle.fk_lists.specs.Room.{list_at, mark_at, spare_at, OthersStay, Room}
use Rattle.fk_lists.specs.PairLists.{PairList, items_of, list_under, marks_of, spares_of, AreByName}
use Rattle.fk_lists.proofs.Lookups.{Entries, is_named, list_on, mark_on, room_on, listed, marked, spared}

-- another name than the one that is looked for
apart : (name other : List ℕ) → other ≢ name → is_named name other ≡ false
apart name other differ =
    is_eq-slice_cmp name other
    ∙ false_from_ne_true (bytes_eq name other) (λ same. differ (sym ((bytes_eq-Decides name other).0 same)))

-- the name that is looked for
pub found_is : (name other : List ℕ) → is_named name other ≡ true → other ≡ name
found_is name other same = sym ((bytes_eq-Decides name other).0 (sym (is_eq-slice_cmp name other) ∙ same))

pub differs_from : (name other : List ℕ) → is_named name other ≡ false → other ≢ name
differs_from name other same is =
    let equal : bytes_eq name other ≡ true = (bytes_eq-Decides name other).1 (sym is) in
    absurd (cc (same, is_eq-slice_cmp name other, equal))

-- what callers see of the held
abbrev pub seen : Entries → Room
seen entries = record { items = items_of entries; spares = spares_of entries; marks = marks_of entries }

-- the list of this name is another, or none, and those of other names stay
abbrev pub Puts : List ℕ → Option PairList → Entries → Entries → Type 0
Puts name put before after =
    (other : List ℕ) → list_under after other ≡ cond (is_named name other) put (list_under before other)

-- where the held of other names stay, so does what callers see
pub others_stay : (before after : Entries) → AreByName before → AreByName after → (name : List ℕ)
    → ((other : List ℕ) → is_named name other ≡ false → list_under after other ≡ list_under before other)
    → OthersStay name (seen before) (seen after)
others_stay before after was is name stay = record {
  items = λ other differ.
      listed after is other ∙ ap list_on (stay other (apart name other differ)) ∙ sym (listed before was other);
  spares = λ other differ.
      spared after other ∙ ap room_on (stay other (apart name other differ)) ∙ sym (spared before other);
}

module _ (name : List ℕ) (put : Option PairList) (before after : Entries) (puts : Puts name put before after) where
  -- what is read off the list of each name stays, where the new list reads as the old one did
  held_stays : {X : Type 0} (read : Option PairList → X) → read put ≡ read (list_under before name)
      → (other : List ℕ) → read (list_under after other) ≡ read (list_under before other)
  held_stays read same other = ap read (puts other) ∙ by (is_named name other) refl
    where
      by : (here : Bool) → is_named name other ≡ here
          → read (cond here put (list_under before other)) ≡ read (list_under before other)
      by true here = same ∙ ap (λ held. read (list_under before held)) (sym (found_is name other here))
      by false here = refl

  pub others_held : (other : List ℕ) → other ≢ name → list_under after other ≡ list_under before other
  others_held other differ = puts other ∙ ap (λ here. cond here put (list_under before other)) (apart name other differ)

  held_here : list_under after name ≡ put
  held_here =
      puts name
      ∙ ap (λ here. cond here put (list_under before name))
      (is_eq-slice_cmp name name ∙ (bytes_eq-Decides name name).1 refl)

  pub room_here : spare_at (spares_of after) name ≡ room_on put
  room_here = spared after name ∙ ap room_on held_here

  pub mark_here : mark_at (marks_of after) name ≡ mark_on put
  mark_here = marked after name ∙ ap mark_on held_here

  pub lists_stay : AreByName before → AreByName after → list_on put ≡ list_at (items_of before) name
      → (other : List ℕ) → list_at (items_of after) other ≡ list_at (items_of before) other
  lists_stay was is same other =
      listed after is other ∙ held_stays list_on (same ∙ listed before was name) other ∙ sym (listed before was other)

  pub rooms_stay : room_on put ≡ spare_at (spares_of before) name
      → (other : List ℕ) → spare_at (spares_of after) other ≡ spare_at (spares_of before) other
  rooms_stay same other =
      spared after other ∙ held_stays room_on (same ∙ spared before name) other ∙ sym (spared before other)

  pub marks_stay : mark_on put ≡ mark_at (marks_of before) name
      → (other : List ℕ) → mark_at (marks_of after) other ≡ mark_at (marks_of before) other
  marks_stay same other =
      marked after other ∙ held_stays mark_on (same ∙ marked before name) other ∙ sym (marked before other)

  pub other_marks : (other : List ℕ) → other ≢ name → mark_at (marks_of after) other ≡ mark_at (marks_of before) other
  other_marks other differ =
      marked after other ∙ ap mark_on (others_held other differ) ∙ sym (marked before other)

  pub other_rooms : (other : List ℕ) → other ≢ name
      → spare_at (spares_of after) other ≡ spare_at (spares_of before) other
  other_rooms other differ =
      spared after other ∙ ap room_on (others_held other differ) ∙ sym (spared before other)

  -- where a name's list takes no room away, no name has less
  pub roomier : spare_at (spares_of before) name ≤ room_on put
      → (other : List ℕ) → spare_at (spares_of before) other ≤ spare_at (spares_of after) other
  roomier more other = rw (spared before other, spared after other, puts other) (by (is_named name other) refl)
    where
      by : (here : Bool) → is_named name other ≡ here
          → room_on (list_under before other) ≤ room_on (cond here put (list_under before other))
      by true same = rw (found_is name other same) (rw (spared before name) at more)
      by false same = omega arith

-- where the others stay and then all stays
pub others_still_stay : (name : List ℕ) (before between after : Room) → OthersStay name before between
    → ((other : List ℕ) → list_at after.items other ≡ list_at between.items other)
    → ((other : List ℕ) → spare_at after.spares other ≡ spare_at between.spares other)
    → OthersStay name before after
others_still_stay name before between after first lists rooms = record {
  items = λ other differ. lists other ∙ first.items other differ;
  spares = λ other differ. rooms other ∙ first.spares other differ;
}
