-- The room that turns write into, and the moves for which it has always enough.
use Rattle.std.specs.Prelude.{◌≡◌, ℕ, ◌+◌, ◌≤◌, List, [], ◌∷◌, length}
use Rattle.fk_model.specs.declared.move_.Move.{Move}
use Rattle.fk_model.specs.declared.move_.Move.TheVariants.{Drop, Totals}
use Rattle.fk_store.specs.declared.store.Room.{Room}

-- one row leaves, and nothing else is changed but numbers
abbrev pub IsOneDrop : List Move → Type 0
IsOneDrop moves = (ticket : ℕ) × (next : ℕ) × (processed : ℕ) × (failures : ℕ)
    × (moves ≡ Drop ticket ∷ Totals next processed failures ∷ [])

-- there is always room for the moves of an acknowledgement, and for their piece
pub record HasRoom (room : Room) : Type 0 where
  pub two : 2 ≤ length room.moves.items + room.moves.spare
  pub framed_ : 51 ≤ length room.piece.items + room.piece.spare
