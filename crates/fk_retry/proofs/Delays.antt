-- The parts of a delay are small.
use Rattle.std.proofs.Common.{ℕ, zero, suc, ◌+◌, ◌*◌, ◌^◌, ◌<◌, ◌≤◌, arith}
use Rattle.std.proofs.Math.Nat.{pow-suc, pow-zero}
use Rattle.std.proofs.lemmas.Nat.{mul-le}
use Rattle.fk_model.specs.Fate.{most_counted}

power_grows : (a b k : ℕ) → a ≤ b → a ^ k ≤ b ^ k
power_grows a b zero less = rw (pow-zero a, pow-zero b) (omega arith)
power_grows a b (suc k) less =
    rw (pow-suc a k, pow-suc b k) (mul-le (a ^ k) a (b ^ k) b (power_grows a b k less) less)

pub fourth_power : (count : ℕ) → count ≤ most_counted → count ^ 4 ≤ 1_000_000_000_000
fourth_power count less = power_grows count 1000 4 less

pub by_chance : (chance count : ℕ) → chance < 30 → count ≤ most_counted → chance * (count + 1) ≤ 29 * 1001
by_chance chance count below less = mul-le chance (count + 1) 29 1001 (omega (arith, below)) (omega (arith, less))
