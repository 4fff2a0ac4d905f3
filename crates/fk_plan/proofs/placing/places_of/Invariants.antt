use Rattle.std.proofs.Common.{take}
use Rattle.fk_plan.specs.Choosing.{ArePlacesOf}
use Rattle.fk_plan.proofs.placing.places_of.Given as goal

-- the places of the moves so far are there
abbrev pub invariant-placing : goal.invariant-placing
invariant-placing l = ArePlacesOf (take l.at l.moves.items) l.places
