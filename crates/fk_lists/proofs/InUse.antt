-- No name is held for nothing, also after the list of one name was put, changed or taken out.
use Rattle.std.proofs.Common.{◌≡◌, ◌∙◌, ◌≢◌, ◌<◌, ◌≤◌, ◌↔◌, ℕ, Bool, true, false, List, [], ◌∷◌, ◌++◌, length, length-append, get_or, Option, None, Some, refl, sym, ap, subst, arith}
use Rattle.std.proofs.Common.{Result, Ok, Err, IfOk, OnErr}
use Rattle.std.specs.Prelude.{cond, All, IfSome, IsTrue}
use Rattle.std.specs.Cmp.Lexicographic.{nat_list_eq_equiv}
use Rattle.std.specs.List.{insert}
use Rattle.std.specs.Map.{lookup}
use Rattle.std.proofs.lemmas.List.Edits.{length-insert}
use Rattle.std.proofs.lemmas.List.Elements.{All-map}
use Rattle.std.proofs.lemmas.Map.Entries.{lookup_from_place, All-lookup}
use Rattle.std.proofs.lemmas.Option.{slice_get-get_or}
use Rattle.fk_model.specs.Orders.{number_in}
use Rattle.fk_lists.specs.Places.{IsGap}
use Rattle.fk_lists.specs.Room.{list_at, spare_at, IsLean}
use Rattle.fk_lists.specs.PairLists.{PairList, items_of, list_under, spares_of, AreByName, AreInUse, IsIdle, IsSound, IsUsed}
use Rattle.fk_lists.proofs.Lookups.{Entries, is_named, list_on, room_on, same_test, distinct, listed, spared}
use Rattle.fk_lists.proofs.Updates.{Puts, differs_from, found_is, others_held, seen}

-- the list at a place is found under its name
found_at : (entries : Entries) → AreByName entries → (k : ℕ) (d : List ℕ × PairList) → k < length entries
    → (e : List ℕ × PairList) → get_or entries k d ≡ e → list_under entries e.0 ≡ Some e.1
found_at entries by_name k d within e same =
    ap (λ test. lookup test entries) (same_test e.0)
    ∙ lookup_from_place nat_list_eq_equiv entries k e.0 e.1 (distinct entries by_name)
    (slice_get-get_or entries k d within ∙ ap Some same)

-- what holds of each list that is found holds of all
pub all_found : (P : PairList → Type 0) (entries : Entries) → AreByName entries
    → ((name : List ℕ) → IfSome (list_under entries name) P) → All (λ entry. P entry.1) entries
all_found P entries by_name each k d within =
    let e = get_or entries k d in
    subst (λ list. IfSome list P) (found_at entries by_name k d within e refl) (each e.0)

-- a list that is found is in use
pub used_under : (entries : Entries) → AreInUse entries → (name : List ℕ) → IfSome (list_under entries name) IsUsed
used_under entries in_use name = All-lookup IsUsed (is_named name) entries in_use

pub used_list : (entries : Entries) → AreInUse entries → (name : List ℕ) (list : PairList)
    → Some list ≡ list_under entries name → IsUsed list
used_list entries in_use name list found =
    subst (λ held. IfSome held IsUsed) (sym found) (used_under entries in_use name)

-- the lists of other names are in use
pub others_used : (name : List ℕ) (put : Option PairList) (before after : Entries) → Puts name put before after
    → AreInUse before → (other : List ℕ) → other ≢ name → IfSome (list_under after other) IsUsed
others_used name put before after puts in_use other differ =
    subst (λ held. IfSome held IsUsed) (sym (others_held name put before after puts other differ))
    (used_under before in_use other)

pub sound_with : (name : List ℕ) (put : Option PairList) (before after : Entries) → Puts name put before after
    → AreByName after → ((other : List ℕ) → other ≢ name → IfSome (list_under before other) IsUsed) → IfSome put IsUsed
    → IsSound after
sound_with name put before after puts by_name others used =
    record { by_name = by_name; in_use = all_found IsUsed after by_name each }
  where
    by : (other : List ℕ) (here : Bool) → is_named name other ≡ here
        → IfSome (cond here put (list_under before other)) IsUsed
    by other true same = used
    by other false same = others other (differs_from name other same)

    each : (other : List ℕ) → IfSome (list_under after other) IsUsed
    each other = subst (λ held. IfSome held IsUsed) (sym (puts other)) (by other (is_named name other) refl)

-- another list of no more pairs and no less room
pub still_used : (before after : PairList) → after.items ≡ before.items → before.spare ≤ after.spare → IsUsed before
    → IsUsed after
still_used before after same more used empty = let some = used (sym same ∙ empty) in omega (arith, some, more)

-- a list with one pair more
pub used_after_insert : (pairs : List (ℕ × ℕ)) (at : ℕ) (pair : ℕ × ℕ) (after : PairList)
    → at ≤ length pairs → after.items ≡ insert pairs at pair → IsUsed after
used_after_insert pairs at pair after within put empty =
    let count : length (insert pairs at pair) ≡ 0 = ap length (sym put ∙ empty) in
    absurd (omega (arith, length-insert pairs at pair within, count))

pub used_after_push : (pairs : List (ℕ × ℕ)) (pair : ℕ × ℕ) (after : PairList) → after.items ≡ pairs ++ pair ∷ []
    → IsUsed after
used_after_push pairs pair after put empty =
    let count : length (pairs ++ pair ∷ []) ≡ 0 = ap length (sym put ∙ empty) in
    absurd (omega (arith, length-append pairs (pair ∷ []), count))

-- a list with one pair more, or as it was
pub used_after_put : (before after : PairList) (pair : ℕ × ℕ) (result : Result ℕ ℕ)
    → IfOk result (λ at. IsGap before.items (number_in pair) at)
    → IfOk result (λ at. after.items ≡ insert before.items at pair) → OnErr result (after ≡ before) → IsUsed before
    → IsUsed after
used_after_put before after pair (Ok at) gap put same used = used_after_insert before.items at pair after gap.within put
used_after_put before after pair (Err at) gap put same used = subst IsUsed (sym same) used

-- the others, where all are in use
pub other_lists : (name : List ℕ) (entries : Entries) → AreInUse entries
    → (other : List ℕ) → other ≢ name → IfSome (list_under entries other) IsUsed
other_lists name entries in_use other differ = used_under entries in_use other

-- where nothing was changed
pub sound_still : (name : List ℕ) (entries : Entries) → AreByName entries
    → ((other : List ℕ) → other ≢ name → IfSome (list_under entries other) IsUsed)
    → IfSome (list_under entries name) IsUsed → IsSound entries
sound_still name entries by_name others used =
    sound_with name (list_under entries name) entries entries same by_name others used
  where
    by : (other : List ℕ) (here : Bool) → is_named name other ≡ here
        → list_under entries other ≡ cond here (list_under entries name) (list_under entries other)
    by other true is = ap (list_under entries) (found_is name other is)
    by other false is = refl

    same : Puts name (list_under entries name) entries entries
    same other = by other (is_named name other) refl

-- ---- a list that has neither a pair nor room

pub no_pairs : (list : Option PairList) → IsIdle list → list_on list ≡ []
no_pairs None idle = refl
no_pairs (Some list) idle = idle.0

pub no_room : (list : Option PairList) → IsIdle list → room_on list ≡ 0
no_room None idle = refl
no_room (Some list) idle = idle.1

pub busy : (list : Option PairList) (is_idle : Bool) → (IsTrue is_idle ↔ IsIdle list) → is_idle ≡ false → IfSome list IsUsed
busy None is_idle tells no_idle = tt
busy (Some list) is_idle tells no_idle = λ empty. some_room list.spare (λ none. tells.1 (empty, none))
  where
    some_room : (spare : ℕ) → (spare ≡ 0 → IsTrue is_idle) → 0 < spare
    some_room spare told = grind (arith, no_idle, told)

-- a name with neither a pair nor room isn't held
pub not_held : (entries : Entries) → IsSound entries → (name : List ℕ) → list_at (items_of entries) name ≡ []
    → spare_at (spares_of entries) name ≡ 0 → list_under entries name ≡ None
not_held entries sound name empty bare =
    by (list_under entries name) (used_under entries sound.in_use name)
    (sym (listed entries sound.by_name name) ∙ empty) (sym (spared entries name) ∙ bare)
  where
    by : (list : Option PairList) → IfSome list IsUsed → list_on list ≡ [] → room_on list ≡ 0 → list ≡ None
    by None used empty bare = refl
    by (Some list) used empty bare = let some = used empty in absurd (omega (arith, some, bare))

-- ---- what callers see of it
pub lean : (entries : Entries) → IsSound entries → IsLean (seen entries)
lean entries sound =
    All-map (λ held. list_at (items_of entries) held.0 ≡ [] → 0 < held.1) (λ entry. (entry.0, entry.1.spare)) entries
    (λ k d within empty.
    let e = get_or entries k d in
    let here = listed entries sound.by_name e.0 ∙ ap list_on (found_at entries sound.by_name k d within e refl) in
    sound.in_use k d within (sym here ∙ empty))
