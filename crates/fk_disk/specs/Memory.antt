-- What a disk in memory is seen as.
use Rattle.std.specs.Prelude.{ℕ, List, length}
use Rattle.fk_disk.specs.DiskState.{CallState, DiskState, images_of}
use Rattle.fk_disk.specs.declared.memory_disk.MemoryDisk.{MemoryDisk}

-- its content, what was done to it until now and until each moment before, and its calls
abbrev pub state_of : MemoryDisk → DiskState
state_of disk = record {
  content = disk.held.bytes.items;
  since = disk.held.trace;
  past = disk.past;
  calls = disk.calls;
}

-- what a read gives
abbrev pub content_of : MemoryDisk → List ℕ
content_of disk = (state_of disk).content

-- its moment: as many are past
abbrev pub moment_of : MemoryDisk → ℕ
moment_of disk = length (state_of disk).past

-- what a crash may leave at each of its moments
abbrev pub images_in : MemoryDisk → ℕ → List ℕ → Type 0
images_in disk = images_of (state_of disk).past (state_of disk).since

-- which of its calls fail, and how often one was made and failed
abbrev pub calls_of : MemoryDisk → CallState
calls_of disk = (state_of disk).calls
