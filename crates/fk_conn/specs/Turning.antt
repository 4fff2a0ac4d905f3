-- Turns, one behind the other, as a session has them made over two disks, and their history.
use Rattle.std.specs.Prelude.{◌≡◌, ℕ, ◌+◌, ◌≤◌, List, [], ◌∷◌, map, All, Option}
use Rattle.fk_io.specs.Telling.{Gave}
use Rattle.fk_model.specs.declared.answer.Answer.{Answer}
use Rattle.fk_model.specs.declared.ask.Ask.{Ask}
use Rattle.fk_model.specs.declared.entry.Entry.{Entry}
use Rattle.fk_model.specs.declared.move_.Move.{Move}
use Rattle.fk_model.specs.declared.told.Told.{Told}
use Rattle.fk_model.specs.History.{faults_after}
use Rattle.fk_lives.specs.Doubt.{IsDoubtAfter, IsSound}
use Rattle.fk_lives.specs.OnDisk.{Server, after_on_disk, moves_of_entry, next_on_disk, IsLegalOnDisk}
use Rattle.fk_lives.specs.Ways.{Disks, KeepPast}
use Rattle.fk_desk.specs.Keeping.{CallsNoDisk, TurnGoesOn, entry_of}

-- what turns are made of: a server on disk, what is in doubt, what the clock and the dice tell, how often a call of
-- each disk has failed, and what a crash may leave of both disks
pub record Keeping : Type 1 where
  pub server : Server
  pub doubt : Option (List Move)
  pub moments : Option (List ℕ)
  pub words : Option (List ℕ)
  pub faults_a : ℕ
  pub faults_b : ℕ
  pub disks : Disks

abbrev pub keeping : Server → Option (List Move) → Option (List ℕ) → Option (List ℕ) → ℕ → ℕ → Disks → Keeping
keeping server doubt moments words faults_a faults_b disks = record {
  server = server;
  doubt = doubt;
  moments = moments;
  words = words;
  faults_a = faults_a;
  faults_b = faults_b;
  disks = disks;
}

-- how often a call of a disk has failed
abbrev pub faults : Keeping → ℕ
faults kept = kept.faults_a + kept.faults_b

-- ---- a history

-- what was asked, what was answered, and which moment and which word each turn took, in order
abbrev pub asks_in : List Entry → List Ask
asks_in history = map (λ entry. entry.ask) history

abbrev pub answers_in : List Entry → List Answer
answers_in history = map (λ entry. entry.answer) history

abbrev pub moments_in : List Entry → List ℕ
moments_in history = map (λ entry. entry.told.moment) history

abbrev pub words_in : List Entry → List ℕ
words_in history = map (λ entry. entry.told.word) history

-- ---- what a crash may leave

-- the same disks at other moments
abbrev pub at_moments : ℕ → ℕ → Disks → Disks
at_moments at_a at_b disks = record disks { at_a = at_a; at_b = at_b }

-- One turn went on from these moments of the disks to those, and left this in doubt: on the way each pair of images
-- stands for what was kept, with or without what was in doubt, or with or without the moves of the turn; and at its end
-- for what is then kept, with or without what is then in doubt. Where it called no disk, that is at the same moments.
pub record OneGoesOn (server : Server) (doubt : Option (List Move)) (entry : Entry) (at_a at_b : ℕ) (now : Disks) :
    Type 0 where
  pub mid_a : ℕ
  pub mid_b : ℕ
  pub later : Option (List Move)
  pub way : TurnGoesOn server.state.kept doubt (moves_of_entry server entry)
      (at_moments at_a at_b now) (at_moments mid_a mid_b now)
  pub doubted : IsDoubtAfter entry.answer (moves_of_entry server entry) doubt later
  pub sound : IsSound (next_on_disk server entry).state.kept later (now.images_a mid_a) (now.images_b mid_b)
  pub still : CallsNoDisk entry.answer (moves_of_entry server entry) → (mid_a ≡ at_a) × (mid_b ≡ at_b)

-- The disks went on by the turns of a history, one behind the other, up to now: there are moments, one for each
-- entry, between which its turn went on.
unfoldable pub TurnsGoOn : Server → Option (List Move) → List Entry → ℕ → ℕ → Disks → Option (List Move) → Type 0
TurnsGoOn server doubt [] at_a at_b now last = (at_a ≡ now.at_a) × (at_b ≡ now.at_b) × (last ≡ doubt)
TurnsGoOn server doubt (entry ∷ entries) at_a at_b now last =
    (one : OneGoesOn server doubt entry at_a at_b now)
    × TurnsGoOn (next_on_disk server entry) one.later entries one.mid_a one.mid_b now last

-- ---- turns

-- Turns were made, and this is their history: each took one moment of the clock and one word of the dice, in order,
-- it is legal from the server before it and the count of faults, and leads to the server and the count behind it.
-- What a crash may leave goes from what it was before to what it is now by these turns. All are of the first seat.
pub record Turned (old new : Keeping) (history : List Entry) : Type 0 where
  pub seats : All (λ entry. entry.seat ≡ 0) history
  pub moments : Gave old.moments (moments_in history) new.moments
  pub words : Gave old.words (words_in history) new.words
  pub legal : IsLegalOnDisk old.server (faults old) history
  pub leads : after_on_disk old.server history ≡ new.server
  pub counted : faults_after (faults old) history ≡ faults new
  pub later_a : old.faults_a ≤ new.faults_a
  pub later_b : old.faults_b ≤ new.faults_b
  pub past : KeepPast old.disks new.disks
  pub crash : TurnsGoOn old.server old.doubt history old.disks.at_a old.disks.at_b new.disks new.doubt

-- one turn of the first seat was made: this was asked, this told, and this answered
abbrev pub MakesTurn : Keeping → Keeping → Ask → Told → Answer → Type 0
MakesTurn old new ask told answer = Turned old new (entry_of 0 ask told answer ∷ [])
