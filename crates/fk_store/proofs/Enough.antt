-- There is always memory for the moves of an acknowledgement.
use Rattle.std.proofs.Common.{◌≡◌, refl, ap, arith, ℕ, ◌+◌, ◌≤◌, List, [], ◌∷◌, length, All}
use Rattle.std.proofs.lemmas.List.Elements.{All-cons, All-nil}
use Rattle.fk_model.specs.declared.move_.Move.{Move}
use Rattle.fk_model.specs.Changes.{after_move, FitInTurn}
use Rattle.fk_model.specs.Spellings.{HasSpelling}
use Rattle.fk_model.specs.State.{KeptState}
use Rattle.fk_moves.specs.Spelling.{moves_bytes, word_bytes}
use Rattle.fk_core.specs.Held.{Held}
use Rattle.fk_core.specs.Reserved.{count_put, Reserved}
use Rattle.fk_store.specs.RoomForTurns.{IsOneDrop}

-- moves that fit have a spelling
pub fit_spelled : (kept : KeptState) (moves : List Move) → FitInTurn kept moves → All HasSpelling moves
unfolding FitInTurn
fit_spelled kept [] fit = All-nil HasSpelling
fit_spelled kept (move ∷ moves) fit =
    All-cons HasSpelling move moves fit.0.spelled (fit_spelled (after_move kept move) moves fit.1)

-- no row is put anywhere, so the tables have room
pub drop_reserved : (held : Held) (moves : List Move) → IsOneDrop moves → Reserved held moves
unfolding count_put
drop_reserved held moves (ticket, next, processed, failures, is) = rw is (record {
  rows = omega arith;
  queues = λ name. omega arith;
  leases = λ jid. omega arith;
  sets = λ target. omega arith;
})

-- its moves have 34 bytes
pub drop_bytes : (moves : List Move) → IsOneDrop moves → length (moves_bytes moves) ≡ 34
unfolding word_bytes
drop_bytes moves (ticket, next, processed, failures, is) = rw is refl

-- its piece has room in 51 bytes
pub drop_framed : (moves : List Move) (room : ℕ) → IsOneDrop moves → 51 ≤ room
    → length (moves_bytes moves) + 17 ≤ room
drop_framed moves room one enough = omega (arith, enough, drop_bytes moves one)
