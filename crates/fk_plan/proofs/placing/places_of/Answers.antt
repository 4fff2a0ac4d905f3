use Rattle.fk_plan.proofs.Placed.{placed, passed}
use Rattle.fk_plan.proofs.placing.places_of.Goals as goal
use Rattle.fk_plan.proofs.placing.places_of.Goals.{in-Some+in_ok-place, in_default}

pub placing-preserved : goal.placing-preserved
placing-preserved c = elim c.match-ticket_told.branch [
  | in-Some+in_ok-place w ↦ rw w.places-is
      (placed c.args.moves.now.items c.placing.at _ c.placing.places _ w.in-Some.ensures w.in_ok-place.ensures
      c.placing.invariant)
  | in_default w ↦ rw w.places-is
      (passed c.args.moves.now.items c.placing.at c.placing.places w.in_default.ensures c.placing.invariant)
]
