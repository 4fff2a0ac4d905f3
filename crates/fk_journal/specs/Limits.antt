-- The numbers that bound a file of pieces.
use Rattle.std.specs.Prelude.{ℕ, ◌^◌}

-- the greatest number of a piece
abbrev pub greatest_number : ℕ
greatest_number = 2 ^ 62

-- the most bytes of a file, up to its last piece and the closed gate behind it
abbrev pub greatest_file : ℕ
greatest_file = 2 ^ 40

-- the bytes of a framed piece besides its moves: number, length, and the closed gate behind it
abbrev pub overhead : ℕ
overhead = 17
