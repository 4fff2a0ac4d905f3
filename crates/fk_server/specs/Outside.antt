-- What `pipe` is given and hands back: an input and an output, and two disks.
use Rattle.std.specs.Prelude.{◌≡◌, ℕ, ◌+◌, ◌<◌, Bool, List, IsTrue}
use Rattle.fk_io.specs.Content.{Supply, Written}
use Rattle.fk_model.specs.Limits.{greatest_count}
use Rattle.fk_lives.specs.OnDisk.{Server}
use Rattle.fk_lives.specs.Standing.{HaveNumbers, Stands}
use Rattle.fk_lives.specs.Ways.{Disks, disks}

-- a disk as contracts see it: its own moment, what a crash may leave of it at each of its moments, whether it tells of
-- its bytes, what a read gives of them, and how often a call of it has failed
pub record DiskSeen : Type 1 where
  pub moment : ℕ
  pub images : ℕ → List ℕ → Type 0
  pub told : Bool
  pub content : List ℕ
  pub faults : ℕ

abbrev pub seen : ℕ → (ℕ → List ℕ → Type 0) → Bool → List ℕ → ℕ → DiskSeen
seen moment images told content faults =
    record { moment = moment; images = images; told = told; content = content; faults = faults }

-- the outside of a server: its input, its output and its two disks
pub record Outside : Type 1 where
  pub input : Supply
  pub out : Written
  pub a : DiskSeen
  pub b : DiskSeen

abbrev pub outside : Supply → Written → DiskSeen → DiskSeen → Outside
outside input out a b = record { input = input; out = out; a = a; b = b }

-- the moments of both disks, and what a crash may leave at each
abbrev pub disks_at : Outside → Disks
disks_at now = disks now.a.moment now.a.images now.b.moment now.b.images

-- both disks tell of their bytes
abbrev pub DisksTell : Outside → Type 0
DisksTell now = IsTrue now.a.told × IsTrue now.b.told

-- what reads of both give stands for what a server keeps, and has the numbers of its journal
abbrev pub StandFor : Outside → Server → Type 0
StandFor now server = Stands now.a.content now.b.content server.state.kept
    × HaveNumbers now.a.content now.b.content server.number server.size

-- no call of a disk failed, and both counts together are below the end of one
pub record NoDiskFails (old new : Outside) : Type 0 where
  pub a : new.a.faults ≡ old.a.faults
  pub b : new.b.faults ≡ old.b.faults
  pub below : old.a.faults + old.b.faults < greatest_count
