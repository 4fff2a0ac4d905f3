-- The life of a server: run after run, each on what the one before it left on the disks, be it a crash.
use Rattle.std.specs.Prelude.{◌≡◌, ◌⊎◌, ℕ, ◌<◌, List, [], ◌∷◌, ◌++◌, Option, None, Some}
use Rattle.std.specs.Option.{option_or}
use Rattle.std.specs.List.{enumerate_from}
use Rattle.fk_time.specs.Moments.{greatest}
use Rattle.fk_job.specs.declared.job.Job.{Job}
use Rattle.fk_model.specs.declared.ask.Ask.{Ask}
use Rattle.fk_model.specs.declared.entry.Entry.{Entry}
use Rattle.fk_model.specs.State.{State, KeptState, empty, without_workers}
use Rattle.fk_model.specs.Spellings.{IsWord}
use Rattle.fk_model.specs.Range.{IsInRange}
use Rattle.fk_model.specs.Changes.{after_moves}
use Rattle.fk_model.specs.Turns.{moves_of_turn, up_to_date}
use Rattle.fk_model.specs.PushEnds.{PushEnd, push_ended, push_ended_in}
use Rattle.fk_model.specs.Given.{added, jobs_in}
use Rattle.fk_lives.specs.OnDisk.{Server, new_server, after_on_disk, IsLegalOnDisk, IsOver}
use Rattle.fk_lives.specs.Doubt.{IsRefusedIn}

-- a command that a crash added to what was kept: the state for which its turn was planned, what was asked, and the
-- moment and the word of the turn
pub record AddedCommand : Type 0 where
  pub state : State
  pub ask : Ask
  pub moment : ℕ
  pub word : ℕ

-- one run of a server: with what it began, its history, and the command that a crash added, if it added one
pub record Run : Type 0 where
  pub start : Server
  pub entries : List Entry
  pub added : Option AddedCommand

-- what is kept behind the run: what its history left, and what the added command makes of it
abbrev pub with_added : KeptState → Option AddedCommand → KeptState
with_added kept None = kept
with_added kept (Some command) =
    after_moves kept (moves_of_turn command.state command.ask command.moment command.word)

abbrev pub kept_behind : Run → KeptState
kept_behind run = with_added (after_on_disk run.start run.entries).state.kept run.added

-- ---- which command a crash may add

-- one that was refused for a disk fault, behind which nothing kept was changed
pub record IsRefusedCommand (run : Run) (command : AddedCommand) : Type 0 where
  pub entry : Entry
  pub refused : IsRefusedIn run.start run.entries entry
  pub state : command.state ≡ (after_on_disk run.start refused.front).state
  pub ask : command.ask ≡ entry.ask
  pub moment : command.moment ≡ entry.told.moment
  pub word : command.word ≡ entry.told.word

-- or one that was on its way when the crash came: one more, of which a turn may be made behind the history
pub record IsCommandOnItsWay (run : Run) (command : AddedCommand) : Type 0 where
  pub state : command.state ≡ (after_on_disk run.start run.entries).state
  pub in_range : IsInRange command.ask
  pub moment : command.moment < greatest
  pub word : IsWord command.word
  pub within : ¬ IsOver (after_on_disk run.start run.entries) command.ask command.moment command.word

-- none, or one of these two
abbrev pub MayBeAdded : Run → Option AddedCommand → Type 0
MayBeAdded run None = Unit {0}
MayBeAdded run (Some command) = IsRefusedCommand run command ⊎ IsCommandOnItsWay run command

-- ---- lives

-- A life goes on from what is kept: each run begins with what the one before it left, and with no worker, and its
-- history is legal.
unfoldable pub GoesOnFrom : KeptState → List Run → Type 0
GoesOnFrom kept [] = Unit {0}
GoesOnFrom kept (run ∷ runs) =
    (run.start.state ≡ without_workers kept) × IsLegalOnDisk run.start 0 run.entries
    × MayBeAdded run run.added × GoesOnFrom (kept_behind run) runs

-- the first run begins as one on blank files
abbrev pub BeginsNew : List Run → Type 0
BeginsNew [] = Unit {0}
BeginsNew (run ∷ runs) = run.start ≡ new_server

-- a life, from blank files on
abbrev pub IsLife : List Run → Type 0
IsLife runs = BeginsNew runs × GoesOnFrom empty runs

-- what is kept at the end of runs
unfoldable pub kept_after : KeptState → List Run → KeptState
kept_after kept [] = kept
kept_after kept (run ∷ runs) = kept_after (kept_behind run) runs

-- ---- the pushes of a life

-- how the command that a crash added ends the push of a ticket
abbrev pub push_ended_by_added : Option AddedCommand → ℕ → Option PushEnd
push_ended_by_added None ticket = None
push_ended_by_added (Some command) ticket =
    push_ended_in command.state command.ask command.moment command.word ticket

-- how a run ends it, from a state in the run on: by an entry, or by what a crash added
abbrev pub push_ended_in_rest : State → List Entry → Option AddedCommand → ℕ → Option PushEnd
push_ended_in_rest state entries added ticket =
    option_or (push_ended state entries ticket) (push_ended_by_added added ticket)

-- how runs do: by the first of their ends
unfoldable pub push_ended_in_runs : List Run → ℕ → Option PushEnd
push_ended_in_runs [] ticket = None
push_ended_in_runs (run ∷ runs) ticket =
    option_or (push_ended_in_rest run.start.state run.entries run.added ticket) (push_ended_in_runs runs ticket)

-- the tickets and jobs that the added command brings
abbrev pub added_by_command : Option AddedCommand → List (ℕ × Job)
added_by_command None = []
added_by_command (Some command) =
    enumerate_from (up_to_date command.state command.moment command.word).kept.next (jobs_in command.ask)

-- those that runs bring, in order: each answered push, and what crashes added
unfoldable pub added_in_runs : List Run → List (ℕ × Job)
added_in_runs [] = []
added_in_runs (run ∷ runs) =
    added run.start.state run.entries ++ added_by_command run.added ++ added_in_runs runs
