-- The piece in which the moves of a turn are spelled.
use Rattle.std.proofs.Common.{◌≡◌, refl, arith, ℕ, ◌<◌, ◌^◌, List, [], ◌∷◌, ◌++◌, length}
use Rattle.fk_journal.specs.Pieces.{begun, closed_gate, framed, numbered}
use Rattle.fk_moves.specs.Writing.{told}

-- moves behind the beginning of their piece, and its end behind them, are that piece
pub is_framed : (number count : ℕ) (bytes before piece : List ℕ) → count ≡ told (length bytes) → count < 2 ^ 63 →
    before ≡ begun number count → piece ≡ before ++ bytes → piece ++ closed_gate ∷ [] ≡ framed number bytes
unfolding numbered
is_framed number count bytes before piece is below started spelled =
    let same : count ≡ length bytes = omega (arith, is, below) in
    rw (spelled, started, same) refl
