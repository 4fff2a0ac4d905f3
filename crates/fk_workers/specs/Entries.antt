-- The map that holds the workers, entry by entry, and what holds of it.
use Rattle.std.specs.Prelude.{ℕ, ◌<◌, ◌≤◌, bytes_eq, List, Option, IsSome, map}
use Rattle.std.specs.List.{AllByRecursion, IsDistinct}
use Rattle.fk_model.specs.State.{Worker}
use Rattle.fk_workers.specs.declared.heard.Heard.{Heard}

-- a wid, and what was heard of it
abbrev pub Entry : Type 0
Entry = List ℕ × Heard

-- the worker of an entry
abbrev pub worker_of : Entry → Worker
worker_of entry = record { wid = entry.0; state = entry.1.state; seen = entry.1.seen }

-- the workers of the entries, in their order
abbrev pub workers_of : List Entry → List Worker
workers_of entries = map worker_of entries

-- nobody was seen before a moment
abbrev pub AreSince : ℕ → List Entry → Type 0
AreSince since entries = AllByRecursion (λ entry. since ≤ entry.1.seen) entries

-- What holds of the map: its wids differ, there is room for a wid that was made ready, and nobody was
-- seen before the moment from which on some may be forgotten.
pub record IsSound (entries : List Entry) (spare : ℕ) (ready : Option (List ℕ)) (since : ℕ) : Type 0 where
  pub apart : IsDistinct bytes_eq (map (λ entry. entry.0) entries)
  pub room : IsSome ready → 0 < spare
  pub seen : AreSince since entries
