-- Each row that a life keeps was brought under its ticket, by a push or by what a crash added.
use Rattle.std.proofs.Common.{◌≡◌, refl, subst, ℕ, List, [], ◌∷◌, ◌++◌, ◌⊎◌, inl, inr, map}
use Rattle.std.specs.Prelude.{Contains, Option, None, Some, IsSome}
use Rattle.std.proofs.lemmas.Bool.{false≢true}
use Rattle.std.proofs.lemmas.List.{append-nil, map-append}
use Rattle.std.proofs.lemmas.List.Elements.{Contains-append_left, Contains-append_right}
use Rattle.fk_job.specs.declared.job.Job.{Job}
use Rattle.fk_model.specs.declared.entry.Entry.{Entry}
use Rattle.fk_model.specs.declared.row.Row.{Row}
use Rattle.fk_model.specs.Rows.{row_at}
use Rattle.fk_model.specs.State.{KeptState, State, empty}
use Rattle.fk_model.specs.Between.{IsWellKept, IsBetweenTurns}
use Rattle.fk_model.specs.History.{next_state, state_after, IsLegalFrom}
use Rattle.fk_model.specs.Given.{added_by, added}
use Rattle.fk_model.proofs.NextTickets.{ticket_in}
use Rattle.fk_model.proofs.OneTicket.{added_alone}
use Rattle.fk_model.proofs.BetweenTurns.{empty_well, next_keeps}
use Rattle.fk_lives.specs.Lives.{AddedCommand, Run, kept_behind, with_added, added_by_command, added_in_runs, GoesOnFrom, IsLife, kept_after}
use Rattle.fk_lives.proofs.AsWithout.{calm, all_added_calm, state_calm}
use Rattle.fk_lives.proofs.Additions.{IsAdditionTo, added_kept, entry_of, made_legal}
use Rattle.fk_lives.proofs.Runs.{kept_of_run, onward}

-- one of these has the ticket
abbrev IsBrought : List (ℕ × Job) → ℕ → Type 0
IsBrought all ticket = Contains (map ticket_in all) ticket

-- no row stands there, or it was brought
abbrev IsNoneOrBrought : Option Row → List (ℕ × Job) → ℕ → Type 0
IsNoneOrBrought found all ticket = (found ≡ None) ⊎ IsBrought all ticket

brought_first : (front back : List (ℕ × Job)) (ticket : ℕ) → IsBrought front ticket → IsBrought (front ++ back) ticket
brought_first front back ticket there =
    rw map-append (Contains-append_left (map ticket_in front) (map ticket_in back) ticket there)

brought_later : (front back : List (ℕ × Job)) (ticket : ℕ) → IsBrought back ticket → IsBrought (front ++ back) ticket
brought_later front back ticket there =
    rw map-append (Contains-append_right (map ticket_in front) (map ticket_in back) ticket there)

-- one behind the other
brought_both : (middle last : Option Row) (front back : List (ℕ × Job)) (ticket : ℕ)
    → IsNoneOrBrought middle front ticket → (middle ≡ None → IsNoneOrBrought last back ticket)
    → IsNoneOrBrought last (front ++ back) ticket
brought_both middle last front back ticket (inr there) later = inr (brought_first front back ticket there)
brought_both middle last front back ticket (inl none) later =
    elim (later none) [
      | inl gone ↦ inl gone
      | inr there ↦ inr (brought_later front back ticket there)
    ]

-- ---- in a history

found_by : (s : State) (n : ℕ) (entry : Entry) (ticket : ℕ) (found : Option Row) → IsBetweenTurns s
    → IsLegalFrom s n (entry ∷ []) → row_at (next_state s entry).kept.rows ticket ≡ found
    → row_at s.kept.rows ticket ≡ None
    → IsNoneOrBrought (row_at (next_state s entry).kept.rows ticket) (added_by s entry entry.answer) ticket
found_by s n entry ticket None ready legal here none = inl here
found_by s n entry ticket (Some row) ready legal here none =
    inr (added_alone s n [] entry ticket ready legal (rw here refl) none)

entries_bring : (s : State) (n : ℕ) (entries : List Entry) (ticket : ℕ) → IsBetweenTurns s
    → IsLegalFrom s n entries → row_at s.kept.rows ticket ≡ None
    → IsNoneOrBrought (row_at (state_after s entries).kept.rows ticket) (added s entries) ticket
unfolding IsLegalFrom
entries_bring s n [] ticket ready legal none = inl none
entries_bring s n (entry ∷ entries) ticket ready legal none =
    let next = next_state s entry in
    brought_both (row_at next.kept.rows ticket) (row_at (state_after next entries).kept.rows ticket)
    (added_by s entry entry.answer) (added next entries) ticket
    (found_by s n entry ticket (row_at next.kept.rows ticket) ready (legal.0, legal.1, tt) refl none)
    (λ gone. entries_bring next entry.told.after entries ticket (next_keeps s entry ready legal.0) legal.2 gone)

-- ---- in runs

command_brings : (kept : KeptState) (added : Option AddedCommand) (ticket : ℕ) → IsAdditionTo kept added
    → row_at kept.rows ticket ≡ None
    → IsNoneOrBrought (row_at (with_added kept added).rows ticket) (added_by_command added) ticket
command_brings kept None ticket may none = inl none
command_brings kept (Some command) ticket may none =
    let behind = state_after command.state (entry_of command ∷ []) in
    rw (added_kept kept command may.0 may.1)
    (subst (λ all. IsNoneOrBrought (row_at behind.kept.rows ticket) all ticket)
    (append-nil (added_by_command (Some command)))
    (entries_bring command.state 0 (entry_of command ∷ []) ticket may.1.ready (made_legal command may.1)
    (rw may.0 none)))

runs_bring : (kept : KeptState) (runs : List Run) (ticket : ℕ) → IsWellKept kept → GoesOnFrom kept runs
    → row_at kept.rows ticket ≡ None
    → IsNoneOrBrought (row_at (kept_after kept runs).rows ticket) (added_in_runs runs) ticket
unfolding kept_after added_in_runs
runs_bring kept [] ticket well life none = inl none
runs_bring kept (run ∷ runs) ticket well life none =
    let on = onward kept run runs well life in
    let s = run.start.state in
    let end = (state_after s run.entries).kept in
    let behind = kept_behind run in
    let first : IsNoneOrBrought (row_at end.rows ticket) (added s run.entries) ticket =
    rw (← all_added_calm s run.entries, ← state_calm s run.entries)
    (entries_bring s 0 (map calm run.entries) ticket on.rest.ready on.rest.legal (rw on.starts none)) in
    brought_both (row_at behind.rows ticket) (row_at (kept_after behind runs).rows ticket)
    (added s run.entries ++ added_by_command run.added) (added_in_runs runs) ticket
    (brought_both (row_at end.rows ticket) (row_at behind.rows ticket) (added s run.entries)
    (added_by_command run.added) ticket first
    (λ gone. rw (kept_of_run run) (command_brings end run.added ticket on.rest.addition gone)))
    (λ gone. runs_bring behind runs ticket on.well on.life gone)

-- where a row is kept, it was brought
some_brought : (found : Option Row) (all : List (ℕ × Job)) (ticket : ℕ) → IsSome found
    → IsNoneOrBrought found all ticket → IsBrought all ticket
some_brought found all ticket some (inl none) = absurd (false≢true (rw none at some))
some_brought found all ticket some (inr there) = there

pub life_rows_brought : (runs : List Run) (ticket : ℕ) → IsLife runs
    → IsSome (row_at (kept_after empty runs).rows ticket) → Contains (map ticket_in (added_in_runs runs)) ticket
life_rows_brought runs ticket life some =
    some_brought (row_at (kept_after empty runs).rows ticket) (added_in_runs runs) ticket some
    (runs_bring empty runs ticket empty_well life.1 refl)
