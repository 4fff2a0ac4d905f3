-- How many moves put a row where a test says so.
use Rattle.std.specs.Prelude.{ℕ, Bool, false, List, count_by}
use Rattle.fk_model.specs.declared.place.Place.{Place}
use Rattle.fk_model.specs.declared.mutation.Target.{Target}
use Rattle.fk_model.specs.declared.move_.Move.{Move}
use Rattle.fk_model.specs.declared.move_.Move.TheVariants.{Add, Put, Drop, DropAll, Totals}
use Rattle.fk_core.specs.Sets.{stands_at}

-- a move puts a row that was there where a test says so
abbrev pub puts : (Place → Bool) → Move → Bool
puts test (Put ticket enqueued failure place) = test place
puts test (Add ticket row) = false
puts test (Drop ticket) = false
puts test DropAll = false
puts test (Totals next processed failures) = false

-- how many moves put a row into a set by moment
abbrev pub count_put : Target → List Move → ℕ
count_put target moves = count_by (puts (stands_at target)) moves
