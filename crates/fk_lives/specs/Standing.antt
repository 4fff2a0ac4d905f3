-- What a pair of files stands for: one kept state, and two numbers of the journal. File B stays blank as long as no
-- second file is written.
use Rattle.std.specs.Prelude.{◌≡◌, ℕ, List, Option, None, Some}
use Rattle.fk_model.specs.State.{KeptState, empty, untold}
use Rattle.fk_model.specs.Changes.{Lead}
use Rattle.fk_lives.specs.Files.{Contents, IsBlank, IsFileOf, moves_in, number_in, size_in}

-- what the live file of a pair tells, if there is one: both may be blank
abbrev pub Tell : List ℕ → List ℕ → Option Contents → Type 0
Tell a b None = IsBlank a × IsBlank b
Tell a b (Some contents) = IsFileOf contents a × IsBlank b

-- the kept state of what is told: the empty one where both files are blank, and else the one to which all moves
-- lead, each of them fitting, from no row and no number
abbrev pub LeadsTo : Option Contents → KeptState → Type 0
LeadsTo None kept = kept ≡ empty
LeadsTo (Some contents) kept = Lead untold (moves_in contents) kept

-- a pair of files stands for a kept state
pub record Stands (a b : List ℕ) (kept : KeptState) : Type 0 where
  pub told : Option Contents
  pub tells : Tell a b told
  pub leads : LeadsTo told kept

-- the number of the next piece, and the place behind the closed gate: those of the live file, or those with which
-- a new file is made
abbrev pub number_of : Option Contents → ℕ
number_of None = 1
number_of (Some contents) = number_in contents

abbrev pub size_of : Option Contents → ℕ
size_of None = 60
size_of (Some contents) = size_in contents

-- a pair of files has these two numbers
pub record HaveNumbers (a b : List ℕ) (number size : ℕ) : Type 0 where
  pub told : Option Contents
  pub tells : Tell a b told
  pub next : number ≡ number_of told
  pub behind : size ≡ size_of told
