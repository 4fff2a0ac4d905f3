-- A command that a crash added, as a history of one entry that begins with what was kept.
use Rattle.std.proofs.Common.{◌≡◌, refl, sym, ap, subst, ℕ, ◌<◌, ◌≤◌, [], ◌∷◌, arith}
use Rattle.std.specs.Prelude.{Option, None, Some}
use Rattle.fk_time.specs.Moments.{greatest}
use Rattle.fk_job.specs.declared.job.Job.{Job}
use Rattle.fk_job.proofs.Pieces.{or_none}
use Rattle.fk_model.specs.declared.answer.Answer.TheVariants.{Said}
use Rattle.fk_model.specs.declared.told.Compaction.TheVariants.{NotDue}
use Rattle.fk_model.specs.declared.entry.Entry.{Entry}
use Rattle.fk_model.specs.Rows.{row_at}
use Rattle.fk_model.specs.State.{KeptState}
use Rattle.fk_model.specs.Spellings.{IsWord}
use Rattle.fk_model.specs.Between.{IsWellKept, IsBetweenTurns}
use Rattle.fk_model.specs.Range.{IsInRange}
use Rattle.fk_model.specs.Turns.{turn}
use Rattle.fk_model.specs.History.{IsOverLimit, next_state, state_after, IsLegalFrom}
use Rattle.fk_model.specs.PushEnds.{PushStands, push_ended_in}
use Rattle.fk_model.proofs.Turning.{turn_comes}
use Rattle.fk_model.proofs.BetweenTurns.{history_keeps}
use Rattle.fk_model.proofs.Absent.{history_none}
use Rattle.fk_model.proofs.StandingPushes.{HasJobAt, history_stands}
use Rattle.fk_model.proofs.OneTicket.{never_falls}
use Rattle.fk_lives.specs.Lives.{AddedCommand, push_ended_by_added, with_added}

-- a turn may be made of a command
pub record MayBeMade (command : AddedCommand) : Type 0 where
  pub ready : IsBetweenTurns command.state
  pub in_range : IsInRange command.ask
  pub moment : command.moment < greatest
  pub word : IsWord command.word
  pub within : ¬ IsOverLimit command.state command.ask command.moment command.word

-- what may be added to a kept state: nothing, or a command whose turn begins with it
abbrev pub IsAdditionTo : KeptState → Option AddedCommand → Type 0
IsAdditionTo kept None = Unit {0}
IsAdditionTo kept (Some command) = (command.state.kept ≡ kept) × MayBeMade command

-- the entry of its turn
abbrev pub entry_of : AddedCommand → Entry
entry_of command = record {
  seat = 0;
  ask = command.ask;
  told = record { moment = command.moment; word = command.word; before = 0; after = 0; compaction = NotDue };
  answer = Said (turn command.state command.ask command.moment command.word).reply;
}

pub made_legal : (command : AddedCommand) → MayBeMade command → IsLegalFrom command.state 0 (entry_of command ∷ [])
unfolding IsLegalFrom
made_legal command made = (
  record {
    in_range = made.in_range;
    told = record {
      moment = made.moment;
      word = made.word;
      before = refl;
      after = refl;
      compaction = refl;
    };
    answer = (made.within, refl);
  },
  omega arith,
  tt,
)

-- what is kept with the command is what its turn leaves
pub added_kept : (kept : KeptState) (command : AddedCommand) → command.state.kept ≡ kept → MayBeMade command
    → with_added kept (Some command) ≡ (state_after command.state (entry_of command ∷ [])).kept
unfolding next_state
added_kept kept command same made =
    rw (← same)
    (sym (turn_comes command.state command.ask command.moment command.word made.ready.kept))

pub added_keeps : (kept : KeptState) (added : Option AddedCommand) → IsWellKept kept → IsAdditionTo kept added
    → IsWellKept (with_added kept added)
added_keeps kept None well may = well
added_keeps kept (Some command) well may =
    rw (added_kept kept command may.0 may.1)
    (history_keeps command.state 0 (entry_of command ∷ []) may.1.ready (made_legal command may.1)).kept

-- it doesn't lower the next number
pub added_rises : (kept : KeptState) (added : Option AddedCommand) → IsAdditionTo kept added
    → kept.next ≤ (with_added kept added).next
added_rises kept None may = omega arith
added_rises kept (Some command) may =
    let same : command.state.kept.next ≡ kept.next = ap (λ k. k.next) may.0 in
    let risen = never_falls command.state [] (entry_of command ∷ []) in
    rw (added_kept kept command may.0 may.1) (omega (arith, same, risen))

-- below the next number it brings no row
pub added_none : (kept : KeptState) (added : Option AddedCommand) (ticket : ℕ) → IsAdditionTo kept added
    → ticket < kept.next → row_at kept.rows ticket ≡ None → row_at (with_added kept added).rows ticket ≡ None
added_none kept None ticket may lower at = at
added_none kept (Some command) ticket may lower at =
    rw (added_kept kept command may.0 may.1)
    (history_none command.state 0 (entry_of command ∷ []) ticket may.1.ready (made_legal command may.1)
    (rw may.0 lower) (rw may.0 at))

-- a push stands as its end in the command's turn says
pub added_stands : (kept : KeptState) (added : Option AddedCommand) (ticket : ℕ) (job : Job) → IsAdditionTo kept added
    → HasJobAt kept.rows ticket job
    → PushStands (push_ended_by_added added ticket) job (row_at (with_added kept added).rows ticket)
added_stands kept None ticket job may has = has
added_stands kept (Some command) ticket job may has =
    let end = push_ended_in command.state command.ask command.moment command.word ticket in
    let behind = state_after command.state (entry_of command ∷ []) in
    rw (added_kept kept command may.0 may.1)
    (subst (λ one. PushStands one job (row_at behind.kept.rows ticket)) (or_none end)
    (history_stands command.state 0 (entry_of command ∷ []) ticket job may.1.ready (made_legal command may.1)
    (rw may.0 has)))
