-- The rows that are known behind moves: where no move adds a row they are as they were, and else the
-- latest that was added under a ticket stands there.
use Rattle.std.proofs.Common.{◌≡◌, ◌≢◌, ◌∙◌, sym, ap, refl, ℕ, zero, suc, ◌<◌, ◌≤◌, List, [], ◌∷◌, ◌++◌, Bool, true, false, ◌-◌, take, inl, inr, arith}
use Rattle.std.specs.Prelude.{◌⊎◌, All, if◌then◌else◌, Option, None, Some, option_map, option_and_then, ◌==◌, nat_lt, find, count_by, slice_get}
use Rattle.std.specs.Option.{option_or}
use Rattle.std.proofs.lemmas.Bool.Decides.{nat_tests}
use Rattle.std.proofs.lemmas.List.Elements.{All-weaker}
use Rattle.fk_model.specs.declared.row.Row.{Row}
use Rattle.fk_model.specs.declared.move_.Move.{Move}
use Rattle.fk_model.specs.declared.move_.Move.TheVariants.{Add, Put, Drop, DropAll, Totals}
use Rattle.fk_model.specs.Rows.{ticket_of, row_of, row_at, with_row}
use Rattle.fk_model.proofs.Cuts.{below, above, is_other}
use Rattle.fk_model.proofs.Filed.{below_are, above_are}
use Rattle.fk_model.proofs.Finding.{find_behind, find_none, find_past, find_filter}
use Rattle.fk_model.proofs.Lookups.{row_at_with}
use Rattle.fk_core.specs.Reserved.{is_add, known_behind}
use Rattle.fk_core.specs.Entrances.{known_after, row_added, IsLatest}
use Rattle.fk_core.proofs.PutCounts.{adds_more, adds_rise}

-- ---- a row added under another ticket

-- where none of the last passes, it is found before them
find_before : {X : Type 0} (p : X → Bool) (front back : List X)
    → All (λ x. p x ≡ false) back → find p (front ++ back) ≡ find p front
find_before p [] back fail = find_none p back fail
find_before p (x ∷ front) back fail =
    ap (λ found. if p x then Some x else found) (find_before p front back fail)

none_below : (rows : List (ℕ × Row)) (ticket other : ℕ) → ticket < other
    → All (λ x. (ticket_of x == other) ≡ false) (below ticket rows)
none_below rows ticket other less =
    All-weaker (λ x. ticket_of x < ticket) (λ x. (ticket_of x == other) ≡ false)
    (λ x lower. is_other (ticket_of x) other (λ same. omega arith)) (below ticket rows) (below_are ticket rows)

none_above : (rows : List (ℕ × Row)) (ticket other : ℕ) → other < ticket
    → All (λ x. (ticket_of x == other) ≡ false) (above ticket rows)
none_above rows ticket other less =
    All-weaker (λ x. ticket < ticket_of x) (λ x. (ticket_of x == other) ≡ false)
    (λ x higher. is_other (ticket_of x) other (λ same. omega arith)) (above ticket rows) (above_are ticket rows)

kept_below : (ticket other number : ℕ) → other < ticket → (number == other) ≡ true
    → nat_lt number ticket ≡ true
kept_below ticket other number less same = grind (arith, nat_tests, less, same)

kept_above : (ticket other number : ℕ) → ticket < other → (number == other) ≡ true
    → nat_lt ticket number ≡ true
kept_above ticket other number less same = grind (arith, nat_tests, less, same)

found_apart : (rows : List (ℕ × Row)) (ticket other : ℕ) → other ≢ ticket
    → find (λ x. ticket_of x == other) (below ticket rows ++ above ticket rows)
    ≡ find (λ x. ticket_of x == other) rows
found_apart rows ticket other apart = elim (in_some_order ticket other apart) [
  | inl less ↦
      find_before (λ x. ticket_of x == other) (below ticket rows) (above ticket rows)
      (none_above rows ticket other less)
      ∙ find_filter (λ x. ticket_of x == other) (λ x. nat_lt (ticket_of x) ticket)
      (λ x. kept_below ticket other (ticket_of x) less) rows
  | inr more ↦
      find_behind (λ x. ticket_of x == other) (below ticket rows) (above ticket rows)
      (none_below rows ticket other more)
      ∙ find_filter (λ x. ticket_of x == other) (λ x. nat_lt ticket (ticket_of x))
      (λ x. kept_above ticket other (ticket_of x) more) rows
]
  where
    in_some_order : (ticket other : ℕ) → other ≢ ticket → (other < ticket) ⊎ (ticket < other)
    in_some_order ticket other apart = grind (arith, apart)

-- a row that is put under one ticket leaves every other as it is, in rows of whatever order
pub row_at_apart : (rows : List (ℕ × Row)) (ticket : ℕ) (row : Row) (other : ℕ) → other ≢ ticket
    → row_at (with_row rows ticket row) other ≡ row_at rows other
row_at_apart rows ticket row other apart =
    let differ : ticket ≢ other = λ same. apart (sym same) in
    ap (option_map row_of)
    (find_past (λ x. ticket_of x == other) (below ticket rows) (above ticket rows) (ticket, row)
    (is_other ticket other differ)
    ∙ found_apart rows ticket other apart)

-- ---- behind one move

added_if : (rows : List (ℕ × Row)) (ticket other : ℕ) (row : Row) (test : Bool)
    → (other == ticket) ≡ test
    → row_at (with_row rows other row) ticket
    ≡ option_or (if test then Some row else None) (row_at rows ticket)
added_if rows ticket other row true same =
    let equal : other ≡ ticket = grind (arith, nat_tests, same) in
    rw equal (row_at_with rows ticket row)
added_if rows ticket other row false same =
    row_at_apart rows other row ticket (λ equal. grind (arith, nat_tests, same, equal))

known_one : (rows : List (ℕ × Row)) (move : Move) (ticket : ℕ)
    → row_at (known_behind rows move) ticket ≡ option_or (row_added ticket move) (row_at rows ticket)
known_one rows (Add other row) ticket = added_if rows ticket other row (other == ticket) refl
known_one rows (Put other enqueued failure place) ticket = refl
known_one rows (Drop other) ticket = refl
known_one rows DropAll ticket = refl
known_one rows (Totals next processed failures) ticket = refl

-- ---- move by move

-- behind one move more
pub known_next : (moves : List Move) (at : ℕ) (rows : List (ℕ × Row)) (ticket : ℕ)
    → row_at (known_after rows (take (suc at) moves)) ticket
    ≡ option_or (option_and_then (row_added ticket) (slice_get moves at))
    (row_at (known_after rows (take at moves)) ticket)
known_next [] zero rows ticket = refl
known_next [] (suc at) rows ticket = refl
known_next (move ∷ moves) zero rows ticket = known_one rows move ticket
known_next (move ∷ moves) (suc at) rows ticket = known_next moves at (known_behind rows move) ticket

-- where none is a new row, the rows are as they were
pub none_added : (moves : List Move) (rows : List (ℕ × Row)) → count_by is_add moves ≡ 0
    → known_after rows moves ≡ rows
none_added [] rows none = refl
none_added (Add ticket row ∷ moves) rows none =
    absurd (omega (arith, none, adds_more (Add ticket row) moves))
none_added (Put other enqueued failure place ∷ moves) rows none = none_added moves rows none
none_added (Drop other ∷ moves) rows none = none_added moves rows none
none_added (DropAll ∷ moves) rows none = none_added moves rows none
none_added (Totals next processed failures ∷ moves) rows none = none_added moves rows none

-- ---- the latest row added under a ticket

-- no move from one place up to another adds a row under the ticket
abbrev pub StaysFrom : List Move → ℕ → ℕ → ℕ → Type 0
StaysFrom moves left at ticket = (rows : List (ℕ × Row)) →
    row_at (known_after rows (take at moves)) ticket ≡ row_at (known_after rows (take left moves)) ticket

one_earlier : (moves : List Move) (first left ticket : ℕ) (found : Option Row) → first < left
    → found ≡ option_and_then (row_added ticket) (slice_get moves (left - 1)) → (rows : List (ℕ × Row))
    → row_at (known_after rows (take left moves)) ticket
    ≡ option_or found (row_at (known_after rows (take (left - 1) moves)) ticket)
one_earlier moves first left ticket found less is rows =
    let same : suc (left - 1) ≡ left = omega arith in
    ap (λ n. row_at (known_after rows (take n moves)) ticket) (sym same)
    ∙ known_next moves (left - 1) rows ticket
    ∙ ap (λ o. option_or o (row_at (known_after rows (take (left - 1) moves)) ticket)) (sym is)

-- it is found at the place before
pub latest_found : (moves : List Move) (at first left ticket : ℕ) (row : Row)
    → StaysFrom moves left at ticket → first < left
    → Some row ≡ option_and_then (row_added ticket) (slice_get moves (left - 1))
    → IsLatest (take at moves) ticket (Some row)
latest_found moves at first left ticket row stays less is = record {
  known = λ rows. stays rows ∙ one_earlier moves first left ticket (Some row) less is rows;
}

-- it isn't there
pub latest_earlier : (moves : List Move) (at first left ticket : ℕ) → StaysFrom moves left at ticket
    → first < left → None ≡ option_and_then (row_added ticket) (slice_get moves (left - 1))
    → StaysFrom moves (left - 1) at ticket
latest_earlier moves at first left ticket stays less is rows =
    stays rows ∙ one_earlier moves first left ticket None less is rows

-- it is nowhere
pub latest_nowhere : (moves : List Move) (at first left ticket : ℕ) → StaysFrom moves left at ticket
    → left ≤ first → count_by is_add (take first moves) ≡ 0 → IsLatest (take at moves) ticket None
latest_nowhere moves at first left ticket stays less none =
    let fewer : count_by is_add (take left moves) ≡ 0 = omega (arith, adds_rise moves left first less, none) in
    record {
      known = λ rows. stays rows ∙ ap (λ xs. row_at xs ticket) (none_added (take left moves) rows fewer);
    }
