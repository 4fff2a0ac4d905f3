-- What a crash may leave within a session, by the history of its turns.
use Rattle.std.specs.Prelude.{◌≡◌, ◌⊎◌, List, [], ◌∷◌, ◌++◌, ℕ, Option}
use Rattle.fk_model.specs.declared.entry.Entry.{Entry}
use Rattle.fk_model.specs.declared.move_.Move.{Move}
use Rattle.fk_model.specs.Changes.{after_moves}
use Rattle.fk_lives.specs.Crashes.{MayReach}
use Rattle.fk_lives.specs.Doubt.{IsDoubtOf, StandsWithDoubt}
use Rattle.fk_lives.specs.OnDisk.{Server, after_on_disk, moves_of_entry}
use Rattle.fk_lives.specs.Standing.{Stands}

-- a pair of files stands for what is kept behind a history, or for that with what may be in doubt behind it
abbrev pub StandsBehind : Server → List Entry → List ℕ → List ℕ → Type 0
StandsBehind server entries a b = (doubt : Option (List Move)) × IsDoubtOf server entries doubt
    × StandsWithDoubt (after_on_disk server entries).state.kept doubt a b

-- it stands for what is kept with the moves of the next entry, whose turn was made, or in which a disk failed
abbrev pub StandsWithNext : Server → List Entry → List ℕ → List ℕ → Type 0
StandsWithNext server [] a b = ⊥
StandsWithNext server (entry ∷ entries) a b =
    MayReach entry.answer × Stands a b (after_moves server.state.kept (moves_of_entry server entry))

-- it stands so behind some front of a history
pub record StandsAmid (server : Server) (entries : List Entry) (a b : List ℕ) : Type 0 where
  pub front : List Entry
  pub back : List Entry
  pub whole : entries ≡ front ++ back
  pub stands : StandsBehind server front a b ⊎ StandsWithNext (after_on_disk server front) back a b
