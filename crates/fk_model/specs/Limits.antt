-- The numbers that bound a state, and counts that stand still at their end.
use Rattle.std.specs.Prelude.{ℕ, ◌+◌, ◌-◌, ◌^◌, min}
use Rattle.fk_time.specs.Moments.{greatest}

-- the greatest next ticket or rank
abbrev pub greatest_next : ℕ
greatest_next = 2 ^ 62

-- the greatest count, and the greatest word
abbrev pub greatest_count : ℕ
greatest_count = 2 ^ 64 - 1

-- the milliseconds of a second
abbrev pub second_length : ℕ
second_length = 1000

-- a count with one more, until its end
abbrev pub raised : ℕ → ℕ
raised count = min (count + 1) greatest_count

-- a moment so much later, up to the greatest
abbrev pub later_by : ℕ → ℕ → ℕ
later_by milliseconds moment = min (moment + milliseconds) greatest
