-- What a getter reads of what was found.
use Rattle.std.proofs.Common.{◌≡◌, ℕ, List}
use Rattle.clap.specs.Matches.{first_value, one_text}
use Rattle.clap.specs.Walk.{first_of, one_of, rows_of}
use Rattle.clap.specs.declared.parser.matches.Found.{Found}
use Rattle.clap.proofs.WalkLemmas.{first_value-rows, one_text-rows}

pub first_found : (found : Found) (id : List ℕ) → first_value found id ≡ first_of id (rows_of found)
first_found found id = first_value-rows found id

pub one_found : (found : Found) (id : List ℕ) → one_text found id ≡ one_of id (rows_of found)
one_found found id = one_text-rows found id
