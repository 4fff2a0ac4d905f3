-- How many pairs each name has.
use Rattle.std.specs.Prelude.{ℕ, List, length, map}
use Rattle.fk_lists.specs.declared.size.Size.{Size}
use Rattle.fk_lists.specs.Room.{Named}

-- a name with the number of its pairs
abbrev pub size_of : List ℕ × List (ℕ × ℕ) → Size
size_of entry = record { name = entry.0; count = length entry.1 }

-- the names that have pairs, in order of their bytes, each with their number
abbrev pub sizes_of : Named → List Size
sizes_of items = map size_of items
