-- What `pipe` does by the settings that its words say.
use Rattle.std.specs.Prelude.{◌≡◌, ◌⊎◌, ℕ, ◌<◌, List, [], ◌∷◌, length, Option, None, Some}
use Rattle.fk_io.specs.Content.{Supply, Written}
use Rattle.fk_io.specs.Faults.{last_count}
use Rattle.fk_io.specs.Telling.{Gave}
use Rattle.fk_journal.specs.declared.fault.Damage.{Damage}
use Rattle.fk_model.specs.declared.gate.Gate.{Gate}
use Rattle.fk_model.specs.State.{KeptState}
use Rattle.fk_lives.specs.Standing.{Stands}
use Rattle.fk_conn.specs.Session.{most_taken}
use Rattle.fk_server.specs.declared.words.Settings.{Settings}
use Rattle.fk_server.specs.Outside.{Outside, DisksTell, NoDiskFails}
use Rattle.fk_server.specs.Serving.{gate_with, IsNotOpened, IsRun}

-- the gate of these settings and a salt
abbrev pub gate_of : Settings → ℕ → Gate
gate_of settings salt = gate_with settings.password salt settings.iterations

-- where a password is set, the salt is the word that the dice told next; else they told none for it
abbrev pub IsSalted : Option (List ℕ) → Option (List ℕ) → ℕ → Option (List ℕ) → Type 0
IsSalted None words salt later = (salt ≡ 0) × (later ≡ words)
IsSalted (Some password) words salt later = Gave words (salt ∷ []) later

-- one run was made over the gate of the settings, whose salt was told before the words of the turns
abbrev pub IsRunBy : Settings → ℕ → Option (List ℕ) → Option (List ℕ) → Outside → Outside → Type 0
IsRunBy settings status moments words old new = (salt : ℕ) × (later : Option (List ℕ))
    × IsSalted settings.password words salt later × IsRun (gate_of settings salt) status moments later old new

-- one run was made, or no server was opened
abbrev pub IsPiped :
    Settings → ℕ → Option Damage → Option (List ℕ) → Option (List ℕ) → Outside → Outside → Type 0
IsPiped settings status damage moments words old new =
    ((damage ≡ None) × IsRunBy settings status moments words old new) ⊎ IsNotOpened status damage old new

-- ---- a run to its end

-- no read fails, the count of failed reads isn't at its end, and fewer bytes are to come than may be taken
pub record NoReadFails (old new : Supply) : Type 0 where
  pub stays : new.faults ≡ old.faults
  pub below : old.faults < last_count
  pub left : List ℕ
  pub told : old.left ≡ Some left
  pub short : length left < most_taken

-- no write fails, and the count of failed writes isn't at its end
pub record NoWriteFails (old new : Written) : Type 0 where
  pub stays : new.faults ≡ old.faults
  pub below : old.faults < last_count

-- the files tell, and stand for some kept state; no call of a disk fails, no read and no write; and the input isn't too
-- long
pub record NothingFails (old new : Outside) : Type 0 where
  pub tell : DisksTell old
  pub kept : KeptState
  pub stands : Stands old.a.content old.b.content kept
  pub disks : NoDiskFails old new
  pub input : NoReadFails old.input new.input
  pub out : NoWriteFails old.out new.out
