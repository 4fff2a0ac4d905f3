-- What one turn makes of a store over two disks.
use Rattle.std.specs.Prelude.{◌≡◌, ◌⊎◌, ◌↔◌, ℕ, List, [], Option}
use Rattle.fk_model.specs.declared.ask.Ask.{Ask}
use Rattle.fk_model.specs.declared.answer.Answer.{Answer}
use Rattle.fk_model.specs.declared.answer.Answer.TheVariants.{Said, NoMemory, Full, DiskFault}
use Rattle.fk_model.specs.declared.told.Told.{Told}
use Rattle.fk_model.specs.declared.entry.Entry.{Entry}
use Rattle.fk_model.specs.declared.move_.Move.{Move}
use Rattle.fk_model.specs.State.{KeptState}
use Rattle.fk_model.specs.Changes.{after_moves}
use Rattle.fk_lives.specs.Standing.{Stands}
use Rattle.fk_lives.specs.Doubt.{StandsWithDoubt}
use Rattle.fk_lives.specs.Ways.{Disks, GoOn, GoOnByStages}

-- the entry of a turn
abbrev pub entry_of : ℕ → Ask → Told → Answer → Entry
entry_of seat ask told answer = record { seat = seat; ask = ask; told = told; answer = answer }

-- a pair of files stands for a kept state without a turn's moves, or with them
abbrev pub StandsWithOrWithout : KeptState → List Move → List ℕ → List ℕ → Type 0
StandsWithOrWithout kept moves a b = Stands a b kept ⊎ Stands a b (after_moves kept moves)

-- What a crash may leave while a turn is made: at each moment each pair of images stands for what was kept, with or
-- without what was in doubt; and from the moment on at which that was settled, for what was kept, with or without
-- the moves of the turn.
abbrev pub TurnGoesOn : KeptState → Option (List Move) → List Move → Disks → Disks → Type 0
TurnGoesOn kept doubt moves before after =
    GoOn (StandsWithDoubt kept doubt) before after
    ⊎ GoOnByStages (StandsWithDoubt kept doubt) (StandsWithOrWithout kept moves) before after

-- no disk is called by a turn without moves, nor by one that is answered by want of memory or by Full
abbrev pub CallsNoDisk : Answer → List Move → Type 0
CallsNoDisk (Said reply) moves = moves ≡ []
CallsNoDisk NoMemory moves = Unit {0}
CallsNoDisk Full moves = Unit {0}
CallsNoDisk DiskFault moves = ⊥

-- the disks stand still
pub record StandStill (before after : Disks) : Type 0 where
  pub at_a : after.at_a ≡ before.at_a
  pub at_b : after.at_b ≡ before.at_b
  pub a : (at : ℕ) (image : List ℕ) → (after.images_a at image ↔ before.images_a at image)
  pub b : (at : ℕ) (image : List ℕ) → (after.images_b at image ↔ before.images_b at image)
