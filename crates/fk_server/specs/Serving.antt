-- One run of a server over two disks and one connection: it is opened, serves one session, and is closed.
use Rattle.std.specs.Prelude.{◌≡◌, ◌≢◌, ◌⊎◌, ℕ, ◌≤◌, List, [], ◌∷◌, ◌++◌, All, Option, None, Some, IfSome, option_map}
use Rattle.std.specs.Borrow.{Bor}
use Rattle.fk_io.specs.declared.fault.Ended.{Ended}
use Rattle.fk_io.specs.declared.fault.Ended.TheVariants.{Closed, ReadFault, WriteFault, Spent, NoMemory}
use Rattle.fk_journal.specs.declared.fault.Damage.{Damage}
use Rattle.fk_model.specs.declared.answer.Answer.TheVariants.{DiskFault}
use Rattle.fk_model.specs.declared.entry.Entry.{Entry}
use Rattle.fk_model.specs.declared.gate.Gate.{Gate}
use Rattle.fk_model.specs.declared.move_.Move.{Move}
use Rattle.fk_model.specs.Between.{IsBetweenTurns}
use Rattle.fk_model.specs.State.{KeptState, empty}
use Rattle.fk_lives.specs.Causes.{HasDiskCause}
use Rattle.fk_lives.specs.Crashes.{IsLifeWith, with_run}
use Rattle.fk_lives.specs.Damages.{IsFirstDamage}
use Rattle.fk_lives.specs.Doubt.{IsDoubtOf, IsSound}
use Rattle.fk_lives.specs.Files.{IsBlank}
use Rattle.fk_lives.specs.Lives.{Run, IsLife, kept_after}
use Rattle.fk_lives.specs.OnDisk.{Server, after_on_disk, new_server}
use Rattle.fk_lives.specs.Standing.{Stands}
use Rattle.fk_lives.specs.Ways.{EachPair, GoOn, HoldsBetween, KeepPast}
use Rattle.fk_shelf.specs.Opening.{KeepFiles, StandsForOne}
use Rattle.fk_conn.specs.Crashing.{StandsAmid}
use Rattle.fk_conn.specs.Session.{IsSession, Wire, wire}
use Rattle.fk_conn.specs.Turning.{Keeping, Turned, at_moments, keeping}
use Rattle.fk_server.specs.Outside.{Outside, DisksTell, NoDiskFails, StandFor, disks_at}

-- the exit status of a session's end
abbrev pub status_of : Ended → ℕ
status_of Closed = 0
status_of ReadFault = 3
status_of WriteFault = 4
status_of Spent = 7
status_of NoMemory = 8

-- ---- lives

-- a life of these runs may go on with a pair of files: it stands for what they left, and both are blank where there was
-- no run
pub record MayGoOn (runs : List Run) (a b : List ℕ) : Type 0 where
  pub life : IsLife runs
  pub stands : Stands a b (kept_after empty runs)
  pub blank : runs ≡ [] → IsBlank a × IsBlank b

-- a pair is left while files are opened: the life goes on with it as before, or, where it had no run, behind one without
-- a turn
abbrev pub IsLeftInOpening : List Run → List ℕ → List ℕ → Type 0
IsLeftInOpening [] a b = MayGoOn (with_run [] new_server [] None) a b
IsLeftInOpening (run ∷ runs) a b = MayGoOn (run ∷ runs) a b

-- up to these moments each pair of images is left in opening, if each stood at the start for what a life had left
abbrev pub LivesThrough : Outside → Outside → ℕ → ℕ → Type 0
LivesThrough old new end_a end_b = (runs : List Run) → IsLife runs
    → EachPair (λ a b. Stands a b (kept_after empty runs)) (old.a.images old.a.moment) (old.b.images old.b.moment)
    → HoldsBetween (IsLeftInOpening runs) (disks_at new) old.a.moment old.b.moment end_a end_b

-- ---- opening

-- what was opened: the server, the moments of the disks at which it was open, and how often a call of each had failed
-- by then
pub record OpenedServer : Type 0 where
  pub server : Server
  pub at_a : ℕ
  pub at_b : ℕ
  pub faults_a : ℕ
  pub faults_b : ℕ

-- A server was opened: the one that the files stood for, where they tell, with no worker. On the way each pair of images
-- stands for one of two kept states, if each did at the start; and at its end for what the server keeps.
pub record OpensOn (old new : Outside) (opened : OpenedServer) : Type 0 where
  pub stands : DisksTell old → StandFor old opened.server
  pub alone : opened.server.state.workers ≡ []
  pub later_a : old.a.faults ≤ opened.faults_a
  pub later_b : old.b.faults ≤ opened.faults_b
  pub crash : (kept other : KeptState)
      → EachPair (StandsForOne kept other) (old.a.images old.a.moment) (old.b.images old.b.moment)
      → KeepPast (disks_at old) (disks_at new)
      × HoldsBetween (StandsForOne kept other) (disks_at new) old.a.moment old.b.moment opened.at_a opened.at_b
  pub lives : LivesThrough old new opened.at_a opened.at_b
  pub sound : IsSound opened.server.state.kept None (new.a.images opened.at_a) (new.b.images opened.at_b)

-- the status of a server that wasn't opened: a call of a disk failed, a file is damaged, or memory ran out
abbrev pub HasRefusal : ℕ → Option Damage → Type 0
HasRefusal status (Some damage) = status ≡ 6
HasRefusal status None = (status ≡ 5) ⊎ (status ≡ 8)

-- a damage that is told is the first of the files, and a read gives of both what it gave
abbrev pub IsDamageTold : Outside → Outside → Damage → Type 0
IsDamageTold old new damage = IsFirstDamage old.a.content old.b.content damage
    × (new.a.content ≡ old.a.content) × (new.b.content ≡ old.b.content)

-- No server was opened: nothing was read of the input, and nothing written. The files are as they were, or A is blank or
-- new where it was blank. A count of a disk's faults rose, or stands at its end, where the status says that one failed.
-- Each pair of images stands at each moment for one of two kept states, if each did at the start.
pub record IsNotOpened (status : ℕ) (damage : Option Damage) (old new : Outside) : Type 0 where
  pub refusal : HasRefusal status damage
  pub input : new.input ≡ old.input
  pub out : new.out ≡ old.out
  pub files : DisksTell old → KeepFiles old.a.content old.b.content new.a.content new.b.content
  pub damaged : DisksTell old → IfSome damage (IsDamageTold old new)
  pub cause : HasDiskCause (status ≡ 5) old.a.faults new.a.faults old.b.faults new.b.faults
  pub tell : DisksTell old → DisksTell new
  pub crash : (kept other : KeptState)
      → EachPair (StandsForOne kept other) (old.a.images old.a.moment) (old.b.images old.b.moment)
      → GoOn (StandsForOne kept other) (disks_at old) (disks_at new)
  pub lives : LivesThrough old new new.a.moment new.b.moment

-- ---- closing

-- What is handed back behind a history. At each moment since the opening each pair of images stands for what some front
-- of it left, maybe with one command more; at the end for what all of it left, with or without what is in doubt. What
-- reads give, where the files tell, stands for that, too, where nothing is in doubt. Where no call of a disk failed, no
-- turn was refused for one, and nothing is in doubt.
pub record LeavesBehind
    (old new : Outside) (opened : OpenedServer) (history : List Entry) (doubt : Option (List Move)) : Type 0 where
  pub tell : DisksTell old → DisksTell new
  pub in_doubt : IsDoubtOf opened.server history doubt
  pub sound : IsSound (after_on_disk opened.server history).state.kept doubt
      (new.a.images new.a.moment) (new.b.images new.b.moment)
  pub amid : HoldsBetween (StandsAmid opened.server history) (disks_at new)
      opened.at_a opened.at_b new.a.moment new.b.moment
  pub reads : DisksTell old → doubt ≡ None → StandFor new (after_on_disk opened.server history)
  pub calm : NoDiskFails old new → All (λ entry. entry.answer ≢ DiskFault) history × (doubt ≡ None)

-- a pair of files is left within a run: with some front of its history, to which a crash may have added one command, the
-- run is the last one of a life, and the pair stands for what that left
pub record IsLeftWithin (runs : List Run) (server : Server) (entries : List Entry) (a b : List ℕ) : Type 0 where
  pub front : List Entry
  pub back : List Entry
  pub whole : entries ≡ front ++ back
  pub left : IsLifeWith runs server front a b

-- a run is one more of a life: each pair that a crash may leave is left within it, and at its end behind all of it
pub record LivesOn (runs : List Run) (new : Outside) (opened : OpenedServer) (history : List Entry) : Type 0 where
  pub life : IsLife (with_run runs opened.server history None)
  pub crash : HoldsBetween (IsLeftWithin runs opened.server history) (disks_at new)
      opened.at_a opened.at_b new.a.moment new.b.moment
  pub back : EachPair (IsLifeWith runs opened.server history)
      (new.a.images new.a.moment) (new.b.images new.b.moment)

-- ---- a session

-- a text that may be lent
abbrev pub text_of : Option (Bor (List ℕ)) → Option (List ℕ)
text_of lent = option_map (λ text. text.now) lent

abbrev pub gate_with : Option (List ℕ) → ℕ → ℕ → Gate
gate_with password salt rounds = record { password = password; salt = salt; rounds = rounds }

-- no session began, since memory ran out for its greeting: nothing was read or written, and no turn was made
pub record IsNotBegun (ended : Ended) (history : List Entry) (old new : Wire) : Type 0 where
  pub memory : ended ≡ NoMemory
  pub none : history ≡ []
  pub input : new.input ≡ old.input
  pub out : new.out ≡ old.out

-- one session was served, with this history, or none began
abbrev pub IsSessionIfAny : Gate → Ended → List Entry → Wire → Wire → Type 0
IsSessionIfAny gate ended history old new =
    IsSession gate ended history old new ⊎ IsNotBegun ended history old new

-- One session was served by what kept a state, and then its disks were handed back: the history, and the server, what is
-- in doubt, and what the clock and the dice had still to tell at its end.
pub record ServesFrom (gate : Gate) (status : ℕ) (start : Keeping) (old : Wire) (new : Outside) : Type 0 where
  pub history : List Entry
  pub last : Server
  pub doubt : Option (List Move)
  pub later_moments : Option (List ℕ)
  pub later_words : Option (List ℕ)
  pub ended : Ended
  pub is_status : status ≡ status_of ended
  pub between : IsBetweenTurns start.server.state
  pub turned : Turned start
      (keeping last doubt later_moments later_words new.a.faults new.b.faults (disks_at new)) history
  pub session : IsSessionIfAny gate ended history old (wire new.input new.out)
  pub sound : IsSound last.state.kept doubt (new.a.images new.a.moment) (new.b.images new.b.moment)
  pub reads : DisksTell new → doubt ≡ None → StandFor new last

-- ---- a run

-- One session was served over the server that was opened: with this history, of which each turn took the next moment of
-- the clock and the next word of the dice. There are moments of the disks, one for each turn, between which it went on.
pub record IsRun
    (gate : Gate) (status : ℕ) (moments words : Option (List ℕ)) (old new : Outside) : Type 0 where
  pub opened : OpenedServer
  pub history : List Entry
  pub doubt : Option (List Move)
  pub later_moments : Option (List ℕ)
  pub later_words : Option (List ℕ)
  pub ended : Ended
  pub is_status : status ≡ status_of ended
  pub opens : OpensOn old new opened
  pub turned : Turned
      (keeping opened.server None moments words opened.faults_a opened.faults_b
      (at_moments opened.at_a opened.at_b (disks_at new)))
      (keeping (after_on_disk opened.server history) doubt later_moments later_words new.a.faults new.b.faults
      (disks_at new)) history
  pub session : IsSessionIfAny gate ended history (wire old.input old.out) (wire new.input new.out)
  pub leaves : LeavesBehind old new opened history doubt
  pub lives : DisksTell old → (runs : List Run) → MayGoOn runs old.a.content old.b.content
      → LivesOn runs new opened history
