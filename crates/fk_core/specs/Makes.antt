-- A move was made.
use Rattle.std.specs.Prelude.{◌≡◌, List, ◌∷◌}
use Rattle.fk_model.specs.declared.move_.Move.{Move}
use Rattle.fk_model.specs.Changes.{after_move}
use Rattle.fk_core.specs.Held.{Held}
use Rattle.fk_core.specs.Reserved.{Reserved}

-- the kept state is the one behind the move, and where there was room for it and others, there is room
-- for the others
pub record Makes (move : Move) (before after : Held) : Type 0 where
  pub kept : after.kept ≡ after_move before.kept move
  pub room : (others : List Move) → Reserved before (move ∷ others) → Reserved after others
