-- What was pushed in a run of a life stands through that run, and through each one behind it.
use Rattle.std.proofs.Common.{◌≡◌, ◌∙◌, refl, sym, ap, subst, ℕ, List, [], ◌∷◌, ◌++◌, map, append_assoc, arith}
use Rattle.std.specs.Prelude.{Option, Contains, Some}
use Rattle.std.specs.Option.{option_or}
use Rattle.std.proofs.lemmas.List.{map-append}
use Rattle.fk_job.specs.declared.job.Job.{Job}
use Rattle.fk_model.specs.declared.row.Row.{Row}
use Rattle.fk_model.specs.declared.entry.Entry.{Entry}
use Rattle.fk_model.specs.Rows.{row_at}
use Rattle.fk_model.specs.State.{KeptState, State, empty}
use Rattle.fk_model.specs.Between.{IsWellKept}
use Rattle.fk_model.specs.History.{state_after, IsLegalFrom}
use Rattle.fk_model.specs.PushEnds.{PushStands}
use Rattle.fk_model.specs.Given.{added_by}
use Rattle.fk_model.proofs.Histories.{legal_goes_on}
use Rattle.fk_model.proofs.BetweenTurns.{empty_well}
use Rattle.fk_model.proofs.StandingPushes.{HasJobAt}
use Rattle.fk_model.proofs.AddedPushes.{pushes_stand}
use Rattle.fk_lives.specs.Lives.{AddedCommand, Run, kept_behind, GoesOnFrom, IsLife, kept_after, push_ended_in_rest, push_ended_in_runs}
use Rattle.fk_lives.proofs.AsWithout.{calm, added_calm, parts_calm, state_calm}
use Rattle.fk_lives.proofs.Rests.{IsRest, has_lower, kept_behind_rest, later_stand, rest_goes_on, rest_rises, rest_stands}
use Rattle.fk_lives.proofs.Runs.{goes_on, kept_goes_on, kept_of_rest, onward, runs_keep, runs_none, runs_stand}

-- a job that an entry adds has a row behind it
entry_added : (s : State) (before : List Entry) (entry : Entry) (added : Option AddedCommand) (ticket : ℕ) (job : Job)
    → (after : List Entry) → IsRest s ((before ++ entry ∷ []) ++ after) added
    → Contains (added_by (state_after s before) entry entry.answer) (ticket, job)
    → HasJobAt (state_after s (before ++ entry ∷ [])).kept.rows ticket job
entry_added s before entry added ticket job after rest there =
    let front = before ++ entry ∷ [] in
    let split = map-append calm before (entry ∷ []) in
    let whole = subst (λ all. IsLegalFrom s 0 all) (map-append calm front after) rest.legal in
    let legal = subst (λ all. IsLegalFrom s 0 all) split
    ((legal_goes_on s 0 (map calm front) (map calm after)).0 whole).0 in
    subst (λ t. HasJobAt t.kept.rows ticket job) (parts_calm s before (entry ∷ []))
    (pushes_stand s 0 (map calm before) [] (calm entry) ticket job rest.ready legal
    (rw (state_calm s before, added_calm (state_after s before) entry entry.answer) there))

-- a job that stands in a run does so through the rest of the run, and through the runs behind it
rest_and_runs_stand : (kept : KeptState) (s : State) (entries : List Entry) (added : Option AddedCommand)
    → (later : List Run) (ticket : ℕ) (job : Job) → IsRest s entries added
    → kept ≡ kept_behind_rest s entries added → IsWellKept kept → GoesOnFrom kept later
    → HasJobAt s.kept.rows ticket job
    → PushStands (option_or (push_ended_in_rest s entries added ticket) (push_ended_in_runs later ticket)) job
    (row_at (kept_after kept later).rows ticket)
rest_and_runs_stand kept s entries added later ticket job rest behind well life has =
    let ended = push_ended_in_rest s entries added ticket in
    let lower = has_lower s.kept ticket job rest.ready.kept has in
    let number : kept.next ≡ (kept_behind_rest s entries added).next = ap (λ k. k.next) behind in
    let risen = rest_rises s entries added rest in
    later_stand ended (push_ended_in_runs later ticket) job (row_at kept.rows ticket)
    (row_at (kept_after kept later).rows ticket)
    (rw behind (rest_stands s entries added ticket job rest has))
    (λ none. runs_none kept later ticket well life (omega (arith, lower, number, risen)) none)
    (λ some. runs_stand kept later ticket job well life some)

from_run : (kept : KeptState) (later : List Run) (run : Run) (before after : List Entry) (entry : Entry)
    → (ticket : ℕ) (job : Job) → IsWellKept kept → GoesOnFrom kept (run ∷ later)
    → run.entries ≡ before ++ entry ∷ after
    → Contains (added_by (state_after run.start.state before) entry entry.answer) (ticket, job)
    → PushStands (option_or
    (push_ended_in_rest (state_after run.start.state (before ++ entry ∷ [])) after run.added ticket)
    (push_ended_in_runs later ticket)) job (row_at (kept_after kept (run ∷ later)).rows ticket)
unfolding kept_after
from_run kept later run before after entry ticket job well life same there =
    let s = run.start.state in
    let front = before ++ entry ∷ [] in
    let on = onward kept run later well life in
    let parts : run.entries ≡ front ++ after = same ∙ sym (append_assoc before (entry ∷ []) after) in
    let rest = subst (λ all. IsRest s all run.added) parts on.rest in
    rest_and_runs_stand (kept_behind run) (state_after s front) after run.added later ticket job
    (rest_goes_on s front after run.added rest) (kept_of_rest run front after parts) on.well on.life
    (entry_added s before entry run.added ticket job after rest there)

-- what was acknowledged stands through a life
pub life_pushes_stand : (earlier later : List Run) (run : Run) (before after : List Entry) (entry : Entry)
    → (ticket : ℕ) (job : Job) → IsLife (earlier ++ run ∷ later) → run.entries ≡ before ++ entry ∷ after
    → Contains (added_by (state_after run.start.state before) entry entry.answer) (ticket, job)
    → PushStands (option_or
    (push_ended_in_rest (state_after run.start.state (before ++ entry ∷ [])) after run.added ticket)
    (push_ended_in_runs later ticket)) job (row_at (kept_after empty (earlier ++ run ∷ later)).rows ticket)
life_pushes_stand earlier later run before after entry ticket job life same there =
    let parts = (goes_on empty earlier (run ∷ later)).0 life.1 in
    rw (kept_goes_on empty earlier (run ∷ later))
    (from_run (kept_after empty earlier) later run before after entry ticket job
    (runs_keep empty earlier empty_well parts.0) parts.1 same there)

-- and so does each row with which runs begin
pub life_rows_stand : (kept : KeptState) (runs : List Run) (ticket : ℕ) (row : Row) → IsWellKept kept
    → GoesOnFrom kept runs → row_at kept.rows ticket ≡ Some row
    → PushStands (push_ended_in_runs runs ticket) row.job (row_at (kept_after kept runs).rows ticket)
life_rows_stand kept runs ticket row well life at =
    runs_stand kept runs ticket row.job well life (rw at refl)
