-- The rest of a run, from a state in it on: its entries, and what a crash added behind them.
use Rattle.std.proofs.Common.{◌≡◌, refl, subst, ℕ, ◌<◌, ◌≤◌, List, [], ◌∷◌, ◌++◌, map, arith}
use Rattle.std.specs.Prelude.{Option, None, Some, IsSomeAnd}
use Rattle.std.specs.Option.{option_or}
use Rattle.std.proofs.lemmas.List.{map-append}
use Rattle.std.proofs.lemmas.List.Sums.{fold-append}
use Rattle.fk_job.specs.declared.job.Job.{Job}
use Rattle.fk_model.specs.declared.entry.Entry.{Entry}
use Rattle.fk_model.specs.declared.row.Row.{Row}
use Rattle.fk_model.specs.Rows.{ticket_of, row_at}
use Rattle.fk_model.specs.State.{KeptState, State}
use Rattle.fk_model.specs.Between.{IsWellKept, IsBetweenTurns}
use Rattle.fk_model.specs.History.{next_state, state_after, faults_after, IsLegalFrom}
use Rattle.fk_model.specs.PushEnds.{PushEnd, PushStands, push_ended}
use Rattle.fk_model.proofs.Tickets.{row_holds}
use Rattle.fk_model.proofs.Histories.{legal_goes_on}
use Rattle.fk_model.proofs.BetweenTurns.{history_keeps, beginnings_keep}
use Rattle.fk_model.proofs.Absent.{history_none}
use Rattle.fk_model.proofs.StandingPushes.{HasJobAt, history_stands}
use Rattle.fk_model.proofs.OneTicket.{never_falls}
use Rattle.fk_lives.specs.Lives.{AddedCommand, push_ended_by_added, push_ended_in_rest, with_added}
use Rattle.fk_lives.proofs.AsWithout.{calm, ended_calm, state_calm}
use Rattle.fk_lives.proofs.Additions.{IsAdditionTo, added_keeps, added_none, added_rises, added_stands}

pub record IsRest (state : State) (entries : List Entry) (added : Option AddedCommand) : Type 0 where
  pub ready : IsBetweenTurns state
  pub legal : IsLegalFrom state 0 (map calm entries)
  pub addition : IsAdditionTo (state_after state entries).kept added

-- what is kept behind it
abbrev pub kept_behind_rest : State → List Entry → Option AddedCommand → KeptState
kept_behind_rest state entries added = with_added (state_after state entries).kept added

-- ---- it goes on

no_faults : (entries : List Entry) → faults_after 0 (map calm entries) ≡ 0
no_faults [] = refl
no_faults (entry ∷ entries) = no_faults entries

pub rest_goes_on : (s : State) (front back : List Entry) (added : Option AddedCommand) → IsRest s (front ++ back) added
    → IsRest (state_after s front) back added
rest_goes_on s front back added rest =
    let legal = subst (λ all. IsLegalFrom s 0 all) (map-append calm front back) rest.legal in
    let later = ((legal_goes_on s 0 (map calm front) (map calm back)).0 legal).1 in
    record {
      ready = rw (← state_calm s front)
          (beginnings_keep s 0 (map calm front) (map calm back) rest.ready legal);
      legal = rw (← state_calm s front)
          (subst (λ n. IsLegalFrom (state_after s (map calm front)) n (map calm back)) (no_faults front) later);
      addition = rw (← fold-append next_state s front back) rest.addition;
    }

-- ---- what it leaves

pub rest_keeps : (s : State) (entries : List Entry) (added : Option AddedCommand) → IsRest s entries added
    → IsWellKept (kept_behind_rest s entries added)
rest_keeps s entries added rest =
    let ready : IsBetweenTurns (state_after s entries) =
    rw (← state_calm s entries) (history_keeps s 0 (map calm entries) rest.ready rest.legal) in
    added_keeps (state_after s entries).kept added ready.kept rest.addition

pub entries_rise : (s : State) (entries : List Entry) → s.kept.next ≤ (state_after s entries).kept.next
entries_rise s entries = never_falls s [] entries

-- the next number isn't lowered
pub rest_rises : (s : State) (entries : List Entry) (added : Option AddedCommand) → IsRest s entries added
    → s.kept.next ≤ (kept_behind_rest s entries added).next
rest_rises s entries added rest =
    let risen = entries_rise s entries in
    let more = added_rises (state_after s entries).kept added rest.addition in
    omega (arith, risen, more)

-- below the next number no row comes
pub rest_none : (s : State) (entries : List Entry) (added : Option AddedCommand) (ticket : ℕ) → IsRest s entries added
    → ticket < s.kept.next → row_at s.kept.rows ticket ≡ None
    → row_at (kept_behind_rest s entries added).rows ticket ≡ None
rest_none s entries added ticket rest lower at =
    let kept = (state_after s entries).kept in
    let risen = entries_rise s entries in
    let none : row_at kept.rows ticket ≡ None =
    rw (← state_calm s entries)
    (history_none s 0 (map calm entries) ticket rest.ready rest.legal lower at) in
    added_none kept added ticket rest.addition (omega (arith, lower, risen)) none

-- ---- pushes

-- one end, and then another: a push stands up to the first of them
pub later_stand : (first rest : Option PushEnd) (job : Job) (after last : Option Row) → PushStands first job after
    → (after ≡ None → last ≡ None) → (IsSomeAnd after (λ row. row.job ≡ job) → PushStands rest job last)
    → PushStands (option_or first rest) job last
later_stand None rest job after last stands none some = some stands
later_stand (Some end) rest job after last stands none some = none stands

-- a job that stands has a ticket below the next number
pub has_lower : (kept : KeptState) (ticket : ℕ) (job : Job) → IsWellKept kept → HasJobAt kept.rows ticket job
    → ticket < kept.next
has_lower kept ticket job well has = found_lower kept ticket job (row_at kept.rows ticket) well refl has
  where
    found_lower : (kept : KeptState) (ticket : ℕ) (job : Job) (found : Option Row) → IsWellKept kept
        → row_at kept.rows ticket ≡ found → IsSomeAnd found (λ row. row.job ≡ job) → ticket < kept.next
    found_lower kept ticket job None well at has = absurd has
    found_lower kept ticket job (Some row) well at has =
        row_holds (λ x. ticket_of x < kept.next) kept.rows ticket row well.above.tickets at

-- a job that stands does so up to the first end of its push, and behind it no row has its ticket
pub rest_stands : (s : State) (entries : List Entry) (added : Option AddedCommand) (ticket : ℕ) (job : Job)
    → IsRest s entries added → HasJobAt s.kept.rows ticket job
    → PushStands (push_ended_in_rest s entries added ticket) job
    (row_at (kept_behind_rest s entries added).rows ticket)
rest_stands s entries added ticket job rest has =
    let kept = (state_after s entries).kept in
    let lower = has_lower s.kept ticket job rest.ready.kept has in
    let risen = entries_rise s entries in
    let stands : PushStands (push_ended s entries ticket) job (row_at kept.rows ticket) =
    rw (← ended_calm s entries ticket, ← state_calm s entries)
    (history_stands s 0 (map calm entries) ticket job rest.ready rest.legal has) in
    later_stand (push_ended s entries ticket) (push_ended_by_added added ticket) job (row_at kept.rows ticket)
    (row_at (with_added kept added).rows ticket) stands
    (λ none. added_none kept added ticket rest.addition (omega (arith, lower, risen)) none)
    (λ some. added_stands kept added ticket job rest.addition some)
