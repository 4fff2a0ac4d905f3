-- A piece in a buffer, and what is left behind it.
use Rattle.std.proofs.Common.{◌≡◌, ℕ, ◌≤◌, List, ◌++◌, length, take, drop, arith}
use Rattle.std.proofs.lemmas.List.{take-append-drop, length-take-le, take-append-le, take_all}
use Rattle.std.proofs.lemmas.Grind.{common_steps}

-- the front in a buffer, and then what is behind that front, is the whole
pub front_then_rest : (n : ℕ) (whole behind : List ℕ) → n ≤ length whole →
    take n (take n whole ++ behind) ++ drop n whole ≡ whole
front_then_rest n whole behind fits =
    grind (arith, common_steps, take-append-drop, length-take-le, take-append-le, take_all)
