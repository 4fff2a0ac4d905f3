-- The command in doubt, and files that are sound for a server.
use Rattle.std.specs.Prelude.{◌≡◌, ◌⊎◌, ℕ, List, [], ◌∷◌, ◌++◌, Option, None, Some}
use Rattle.fk_model.specs.declared.answer.Answer.{Answer}
use Rattle.fk_model.specs.declared.answer.Answer.TheVariants.{Said, NoMemory, Full, DiskFault}
use Rattle.fk_model.specs.declared.entry.Entry.{Entry}
use Rattle.fk_model.specs.declared.move_.Move.{Move}
use Rattle.fk_model.specs.State.{KeptState}
use Rattle.fk_model.specs.Changes.{after_moves}
use Rattle.fk_lives.specs.Standing.{Stands}
use Rattle.fk_lives.specs.OnDisk.{Server, after_on_disk, moves_of_entry, KeepAll}

-- a pair of files stands for a kept state, or for it with the moves that are in doubt, if some are
abbrev pub StandsWithDoubt : KeptState → Option (List Move) → List ℕ → List ℕ → Type 0
StandsWithDoubt kept None a b = Stands a b kept
StandsWithDoubt kept (Some moves) a b = Stands a b kept ⊎ Stands a b (after_moves kept moves)

-- what a crash now may leave of two disks is sound: each pair of images stands for it so
abbrev pub IsSound : KeptState → Option (List Move) → (List ℕ → Type 0) → (List ℕ → Type 0) → Type 0
IsSound kept doubt images_a images_b =
    (a b : List ℕ) → images_a a → images_b b → StandsWithDoubt kept doubt a b

-- A command that was refused for a disk fault, and may be on the disk all the same: its entry, the history before it
-- and behind it. No entry behind it changed what is kept; some may have been refused as well.
pub record IsRefusedIn (server : Server) (entries : List Entry) (entry : Entry) : Type 0 where
  pub front : List Entry
  pub back : List Entry
  pub whole : entries ≡ front ++ entry ∷ back
  pub refused : entry.answer ≡ DiskFault
  pub keep : KeepAll (after_on_disk server front) (entry ∷ back)

-- ---- a history

-- what may be in doubt behind a history: nothing, or the moves of such an entry
abbrev pub IsDoubtOf : Server → List Entry → Option (List Move) → Type 0
IsDoubtOf server entries None = Unit {0}
IsDoubtOf server entries (Some moves) = (entry : Entry) × (refused : IsRefusedIn server entries entry)
    × (moves ≡ moves_of_entry (after_on_disk server refused.front) entry)

-- two disks are sound for a server behind a history, by what may be in doubt
abbrev pub AreSoundFor : Server → List Entry → (List ℕ → Type 0) → (List ℕ → Type 0) → Type 0
AreSoundFor server entries images_a images_b = (doubt : Option (List Move)) × IsDoubtOf server entries doubt
    × IsSound (after_on_disk server entries).state.kept doubt images_a images_b

-- ---- a turn

-- What is in doubt behind a turn with these moves: after Said nothing, unless there was no move, and then what was;
-- after a fault of a disk what was, or nothing, since it was settled, or the moves of this turn. Nothing else
-- changes it.
abbrev pub IsDoubtAfter : Answer → List Move → Option (List Move) → Option (List Move) → Type 0
IsDoubtAfter (Said reply) [] before after = after ≡ before
IsDoubtAfter (Said reply) (move ∷ moves) before after = after ≡ None
IsDoubtAfter NoMemory moves before after = after ≡ before
IsDoubtAfter Full moves before after = after ≡ before
IsDoubtAfter DiskFault moves before after = (after ≡ before) ⊎ (after ≡ None) ⊎ (after ≡ Some moves)
