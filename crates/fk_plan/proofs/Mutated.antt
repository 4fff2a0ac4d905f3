-- What a MUTATE does, row by row and as a whole.
use Rattle.std.proofs.Common.{◌≡◌, ◌∙◌, sym, ap, refl, ℕ, ◌+◌, ◌<◌, ◌≤◌, List, [], ◌∷◌, ◌++◌, drop, length, true, false, append_assoc, append-nil, arith}
use Rattle.std.specs.Prelude.{Option, None, Some, option_map, slice_get}
use Rattle.std.proofs.lemmas.List.{length-append}
use Rattle.fk_time.specs.Moments.{greatest}
use Rattle.fk_model.specs.declared.row.Row.{Row}
use Rattle.fk_model.specs.declared.ask.Ask.TheVariants.{Mutate}
use Rattle.fk_model.specs.declared.move_.Move.{Move}
use Rattle.fk_model.specs.declared.mutation.Cmd.{Cmd}
use Rattle.fk_model.specs.declared.mutation.Cmd.TheVariants.{Kill, Discard, Requeue, Clear}
use Rattle.fk_model.specs.declared.mutation.Filter.{Filter}
use Rattle.fk_model.specs.declared.mutation.Target.{Target}
use Rattle.fk_model.specs.declared.mutation.Target.TheVariants as target
use Rattle.fk_model.specs.Rows.{row_at}
use Rattle.fk_model.specs.State.{KeptState, State, Worker, with_workers}
use Rattle.fk_model.specs.Orders.{ticket_in}
use Rattle.fk_model.specs.Between.{IsWellKept}
use Rattle.fk_model.specs.Bringing.{brought_up, moves_up}
use Rattle.fk_model.specs.Mutated.{rows_in, taken, moves_of_mutated}
use Rattle.fk_model.specs.Said.{ok, said}
use Rattle.fk_model.specs.Turns.{moves_of}
use Rattle.fk_model.proofs.Sieves.{filter_all}
use Rattle.fk_model.proofs.Mutating.{number_behind, mutated_counts}
use Rattle.fk_plan.specs.declared.numbers.Numbers.{Numbers}
use Rattle.fk_plan.specs.Choosing.{set_behind, move_of, row_told, rows_told}
use Rattle.fk_plan.specs.Plans.{AreNumbersOf, IsDone}
use Rattle.fk_plan.specs.Taking.{is_idle, takes, taken_of, move_taken, next_behind}
use Rattle.fk_plan.proofs.DueMoves.{at_place}
use Rattle.fk_plan.proofs.RowsUp.{rows_up}

-- ---- the moves, one by one

-- the first move, and those behind it
moves_first : (cmd : Cmd) (moment next : ℕ) (filed : ℕ × Row) (rows : List (ℕ × Row))
    → moves_of_mutated cmd moment next (filed ∷ rows)
    ≡ move_taken cmd moment next filed ∷ moves_of_mutated cmd moment (next_behind cmd next 1) rows
moves_first Kill moment next filed rows = refl
moves_first Discard moment next filed rows = refl
moves_first Requeue moment next filed rows = refl
moves_first Clear moment next filed rows = refl

count_killed : (moment next : ℕ) (rows : List (ℕ × Row)) → length (moves_of_mutated Kill moment next rows) ≡ length rows
count_killed moment next [] = refl
count_killed moment next (filed ∷ rows) =
    let rest = count_killed moment next rows in omega (arith, rest)

count_gone : (moment next : ℕ) (rows : List (ℕ × Row)) → length (moves_of_mutated Discard moment next rows) ≡ length rows
count_gone moment next [] = refl
count_gone moment next (filed ∷ rows) =
    let rest = count_gone moment next rows in omega (arith, rest)

count_requeued : (moment next : ℕ) (rows : List (ℕ × Row))
    → length (moves_of_mutated Requeue moment next rows) ≡ length rows
count_requeued moment next [] = refl
count_requeued moment next (filed ∷ rows) =
    let rest = count_requeued moment (next + 1) rows in omega (arith, rest)

-- there is a move for each row
count_moves : (cmd : Cmd) (moment next : ℕ) (rows : List (ℕ × Row))
    → length (moves_of_mutated cmd moment next rows) ≡ length rows
count_moves Kill moment next rows = count_killed moment next rows
count_moves Discard moment next rows = count_gone moment next rows
count_moves Requeue moment next rows = count_requeued moment next rows
count_moves Clear moment next rows = count_gone moment next rows

same_behind : (cmd : Cmd) (next : ℕ) (rows : List (ℕ × Row))
    → number_behind cmd next rows ≡ next_behind cmd next (length rows)
same_behind Kill next rows = refl
same_behind Discard next rows = refl
same_behind Requeue next rows = refl
same_behind Clear next rows = refl

-- ---- in the loop

-- the row of the pair at a place comes first of what is left
row_first : (rows : List (ℕ × Row)) (moves : List Move) (pairs : List (ℕ × ℕ)) (at ticket : ℕ) (row : Row)
    → Some ticket ≡ option_map ticket_in (slice_get pairs at) → Some row ≡ row_at rows ticket
    → rows_told rows moves (drop at pairs)
    ≡ (ticket, row_told (move_of moves ticket) row) ∷ rows_told rows moves (drop (at + 1) pairs)
row_first rows moves pairs at ticket row is here =
    at_place pairs at ticket (slice_get pairs at) refl is
    (λ left. rows_told rows moves left
    ≡ (ticket, row_told (move_of moves ticket) row) ∷ rows_told rows moves (drop (at + 1) pairs))
    (λ pair same. rw (same, ← here) refl)

-- a row is taken
pub one_taken : (cmd : Cmd) (filter : Filter) (moment next : ℕ) (rows : List (ℕ × Row)) (moves : List Move)
    (pairs : List (ℕ × ℕ)) (at ticket : ℕ) (row : Row) (step : Option Move) (done new : List Move) (made : Move)
    → Some ticket ≡ option_map ticket_in (slice_get pairs at) → Some row ≡ row_at rows ticket
    → step ≡ move_of moves ticket → true ≡ takes cmd filter (row_told step row)
    → made ≡ move_taken cmd moment next (ticket, row_told step row) → new ≡ done ++ made ∷ []
    → new ++ moves_of_mutated cmd moment (next_behind cmd next 1)
    (taken_of cmd filter (rows_told rows moves (drop (at + 1) pairs)))
    ≡ done ++ moves_of_mutated cmd moment next (taken_of cmd filter (rows_told rows moves (drop at pairs)))
one_taken cmd filter moment next rows moves pairs at ticket row step done new made is here told takes_it makes added =
    let told_row = row_told (move_of moves ticket) row in
    let takes_told : takes cmd filter told_row ≡ true = rw (← told) (sym takes_it) in
    rw (row_first rows moves pairs at ticket row is here, takes_told)
    (rw (
      moves_first cmd moment next (ticket, told_row)
          (taken_of cmd filter (rows_told rows moves (drop (at + 1) pairs))),
      added,
      makes,
      told,
    )
    (append_assoc done (move_taken cmd moment next (ticket, told_row) ∷ [])
    (moves_of_mutated cmd moment (next_behind cmd next 1)
    (taken_of cmd filter (rows_told rows moves (drop (at + 1) pairs))))))

-- it is not taken
pub none_taken : (cmd : Cmd) (filter : Filter) (moment next : ℕ) (rows : List (ℕ × Row)) (moves : List Move)
    (pairs : List (ℕ × ℕ)) (at ticket : ℕ) (row : Row) (step : Option Move) (done : List Move)
    → Some ticket ≡ option_map ticket_in (slice_get pairs at) → Some row ≡ row_at rows ticket
    → step ≡ move_of moves ticket → false ≡ takes cmd filter (row_told step row)
    → done ++ moves_of_mutated cmd moment next (taken_of cmd filter (rows_told rows moves (drop (at + 1) pairs)))
    ≡ done ++ moves_of_mutated cmd moment next (taken_of cmd filter (rows_told rows moves (drop at pairs)))
none_taken cmd filter moment next rows moves pairs at ticket row step done is here told takes_none =
    let told_row = row_told (move_of moves ticket) row in
    let takes_told : takes cmd filter told_row ≡ false = rw (← told) (sym takes_none) in
    rw (row_first rows moves pairs at ticket row is here, takes_told) refl

-- no row is there
pub none_there : (cmd : Cmd) (filter : Filter) (moment next : ℕ) (rows : List (ℕ × Row)) (moves : List Move)
    (pairs : List (ℕ × ℕ)) (at ticket : ℕ) (done : List Move)
    → Some ticket ≡ option_map ticket_in (slice_get pairs at) → None ≡ row_at rows ticket
    → done ++ moves_of_mutated cmd moment next (taken_of cmd filter (rows_told rows moves (drop (at + 1) pairs)))
    ≡ done ++ moves_of_mutated cmd moment next (taken_of cmd filter (rows_told rows moves (drop at pairs)))
none_there cmd filter moment next rows moves pairs at ticket done is none =
    at_place pairs at ticket (slice_get pairs at) refl is
    (λ left. done ++ moves_of_mutated cmd moment next (taken_of cmd filter (rows_told rows moves (drop (at + 1) pairs)))
    ≡ done ++ moves_of_mutated cmd moment next (taken_of cmd filter (rows_told rows moves left)))
    (λ pair same. rw (same, ← none) refl)

-- one more is done
pub next_more : (cmd : Cmd) (next count : ℕ)
    → next_behind cmd (next_behind cmd next count) 1 ≡ next_behind cmd next (count + 1)
next_more Kill next count = refl
next_more Discard next count = refl
next_more Requeue next count = omega arith
next_more Clear next count = refl

pub next_most : (cmd : Cmd) (next count : ℕ) → next_behind cmd next count ≤ next + count
next_most Kill next count = omega arith
next_most Discard next count = omega arith
next_most Requeue next count = omega arith
next_most Clear next count = omega arith

pub next_none : (cmd : Cmd) (next : ℕ) → next ≡ next_behind cmd next 0
next_none Kill next = refl
next_none Discard next = refl
next_none Requeue next = omega arith
next_none Clear next = refl

-- the numbers behind one more
pub next_on : (cmd : Cmd) (first now : Numbers) (done new : List Move) (made : Move) (next : ℕ)
    → now ≡ record first { next = next_behind cmd first.next (length done) } → next ≡ next_behind cmd now.next 1
    → new ≡ done ++ made ∷ []
    → record now { next = next } ≡ record first { next = next_behind cmd first.next (length new) }
next_on cmd first now done new made next was is added =
    rw (is, added, was)
    (ap (λ n. record first { next = n })
    (next_more cmd first.next (length done)
    ∙ ap (next_behind cmd first.next) (sym (length-append done (made ∷ [])))))

-- ---- as a whole

-- unless it does nothing, it takes those rows of its set
taken_rows : (cmd : Cmd) (chosen : Target) (filter : Filter) (kept : KeptState) → is_idle cmd chosen ≡ false
    → taken cmd chosen filter kept ≡ taken_of cmd filter (rows_in chosen kept)
taken_rows Kill target.Scheduled filter kept not = refl
taken_rows Kill target.Retries filter kept not = refl
taken_rows Kill target.Dead filter kept not = absurd (cc)
taken_rows Discard chosen filter kept not = refl
taken_rows Requeue chosen filter kept not = refl
taken_rows Clear chosen filter kept not =
    sym (filter_all (λ filed. true) (rows_in chosen kept) (λ k d within. refl))

-- what is dead stays as it is
pub idle_done : (before : KeptState) (up : State) (cmd : Cmd) (chosen : Target) (filter : Filter) (moment word : ℕ)
    (front : List Move) (numbers : Numbers) → is_idle cmd chosen ≡ true → AreNumbersOf up.kept numbers
    → IsDone before up (Mutate cmd chosen filter) moment word ok front front numbers
unfolding said moves_of
idle_done before up Kill target.Dead filter moment word front numbers is has =
    record { answer = refl; made = sym (append-nil front); counted = has }
idle_done before up cmd chosen filter moment word front numbers is has = absurd (cc)

whole_done : (before : KeptState) (up : State) (cmd : Cmd) (chosen : Target) (filter : Filter) (moment word : ℕ)
    (rows : List (ℕ × Row)) (front made moves : List Move) (numbers after : Numbers)
    → taken cmd chosen filter up.kept ≡ rows → made ≡ moves_of_mutated cmd moment up.kept.next rows
    → moves ≡ front ++ made → AreNumbersOf up.kept numbers
    → after ≡ record numbers { next = next_behind cmd numbers.next (length made) }
    → IsDone before up (Mutate cmd chosen filter) moment word ok front moves after
unfolding said moves_of
whole_done before up cmd chosen filter moment word rows front made moves numbers after takes_them makes added has
    then =
    let counts = mutated_counts cmd moment up.kept rows in
    let count : length made ≡ length rows = ap length makes ∙ count_moves cmd moment up.kept.next rows in
    record {
      answer = refl;
      made = rw (takes_them, ← makes) added;
      counted = rw (takes_them, then) (record {
        next = rw (count, has.next) (sym (same_behind cmd up.kept.next rows) ∙ sym counts.next);
        processed = has.processed ∙ sym counts.processed;
        failures = has.failures ∙ sym counts.failures;
      });
    }

-- it is done in the state that was brought up to date
pub mutate_done : (kept : KeptState) (workers : List Worker) (cmd : Cmd) (chosen : Target) (filter : Filter)
    (moment word : ℕ) (front made moves : List Move) (numbers after : Numbers) → IsWellKept kept → moment < greatest
    → is_idle cmd chosen ≡ false → front ≡ moves_up kept moment word
    → AreNumbersOf (brought_up kept moment word) numbers
    → made ≡ moves_of_mutated cmd moment numbers.next
    (taken_of cmd filter (rows_told kept.rows front (set_behind chosen kept.rows moment front)))
    → after ≡ record numbers { next = next_behind cmd numbers.next (length made) } → moves ≡ front ++ made
    → IsDone kept (with_workers (brought_up kept moment word) workers) (Mutate cmd chosen filter) moment word ok
    front moves after
mutate_done kept workers cmd chosen filter moment word front made moves numbers after well told not is_up has makes
    then added =
    let up = brought_up kept moment word in
    let rows = taken_of cmd filter (rows_in chosen up) in
    let same : rows_in chosen up ≡ rows_told kept.rows front (set_behind chosen kept.rows moment front) =
    rw is_up (rows_up chosen kept moment word well told) in
    whole_done kept (with_workers up workers) cmd chosen filter moment word rows front made moves numbers after
    (taken_rows cmd chosen filter up not)
    (makes ∙ ap (λ n. moves_of_mutated cmd moment n
    (taken_of cmd filter (rows_told kept.rows front (set_behind chosen kept.rows moment front)))) has.next
    ∙ ap (λ xs. moves_of_mutated cmd moment up.next (taken_of cmd filter xs)) (sym same))
    added has then
