-- What a crash leaves is what the next run of a life may begin with.
use Rattle.std.specs.Prelude.{◌≡◌, ◌⊎◌, ℕ, List, [], ◌∷◌, ◌++◌, Option}
use Rattle.fk_frame.specs.declared.reply.Reply.{Reply}
use Rattle.fk_model.specs.declared.answer.Answer.{Answer}
use Rattle.fk_model.specs.declared.answer.Answer.TheVariants.{Said, DiskFault}
use Rattle.fk_model.specs.declared.entry.Entry.{Entry}
use Rattle.fk_model.specs.State.{empty}
use Rattle.fk_lives.specs.Standing.{Stands}
use Rattle.fk_lives.specs.OnDisk.{Server}
use Rattle.fk_lives.specs.Lives.{AddedCommand, Run, IsLife, kept_after}

-- runs, and behind them one from this server on, of this history, to which a crash added this
abbrev pub with_run : List Run → Server → List Entry → Option AddedCommand → List Run
with_run runs server entries added = runs ++ (record { start = server; entries = entries; added = added }) ∷ []

-- a turn that was made, or in which a disk failed, may have reached the disks
abbrev pub MayReach : Answer → Type 0
MayReach answer = ((reply : Reply) × (answer ≡ Said reply)) ⊎ (answer ≡ DiskFault)

-- with such a run it is a life, and the files stand for what is kept at its end
abbrev pub IsLifeWith : List Run → Server → List Entry → List ℕ → List ℕ → Type 0
IsLifeWith runs server entries a b = (added : Option AddedCommand)
    × IsLife (with_run runs server entries added)
    × Stands a b (kept_after empty (with_run runs server entries added))
