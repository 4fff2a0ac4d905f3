-- The past of a disk in memory, told from the last moment to the first.
use Rattle.std.specs.Prelude.{List, [], ◌∷◌, ◌++◌}
use Rattle.fk_disk.specs.Since.{Since}
use Rattle.fk_disk.specs.declared.past.Link.{Link}
use Rattle.fk_disk.specs.declared.past.Link.TheVariants.{Start, Then}

-- what was done until each moment, the first moment first
abbrev pub moments_of : Link → List Since
moments_of Start = []
moments_of (Then done before) = before.value ++ done.value ∷ []
