-- Which refusals tell a damage of the file.
use Rattle.std.specs.Prelude.{Result, Ok, Err}
use Rattle.fk_journal.specs.declared.fault.OpenFault.{OpenFault}
use Rattle.fk_journal.specs.declared.fault.OpenFault.TheVariants.{DiskFault, Damaged, NoMemory}

-- no damage was told
abbrev pub IsUndamaged : {T : Type 0} → Result T OpenFault → Type 0
IsUndamaged (Ok _) = Unit {0}
IsUndamaged (Err DiskFault) = Unit {0}
IsUndamaged (Err (Damaged damage)) = ⊥
IsUndamaged (Err NoMemory) = Unit {0}
