-- A count of faults that rose stays risen while it doesn't fall.
use Rattle.std.proofs.Common.{ℕ, ◌≤◌, arith}
use Rattle.fk_io.specs.Faults.{Rose}

-- it rose, and then went on
pub rose_then_on : (before now later : ℕ) → Rose before now → now ≤ later → Rose before later
rose_then_on before now later rose on = grind arith

-- it went on, and then rose
pub on_then_rose : (before now later : ℕ) → before ≤ now → Rose now later → Rose before later
on_then_rose before now later on rose = grind arith
