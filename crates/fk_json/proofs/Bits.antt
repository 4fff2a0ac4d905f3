-- Brackets as one bit each: what one more and one less come to.
use Rattle.std.proofs.Common.{◌≡◌, ℕ, zero, suc, ◌+◌, ◌-◌, ◌*◌, ◌/◌, ◌^◌, ◌<◌, List, length, Some, refl, sym, ap, subst, ◌∙◌, arith}
use Rattle.std.proofs.Math.Pow.{pow_mono}
use Rattle.fk_json.specs.Brackets.{bit_of, brackets_length, brackets_of, popped}
use Rattle.fk_json.specs.declared.mode.Bracket.{Bracket}
use Rattle.fk_json.specs.declared.mode.Bracket.TheVariants.{Array, Object}

pub bit_small : (bracket : Bracket) → bit_of bracket < 2
bit_small Array = omega arith
bit_small Object = omega arith

-- what is pushed fits in the bits
pub pushed_small : (depth bits bit : ℕ) (brackets : List Bracket) → brackets_of depth bits ≡ brackets
    → length brackets < 126 → bits < 2 ^ depth → bit < 2 → bits * 2 + bit < 2 ^ 128
pushed_small depth bits bit brackets e less small one =
    let many : depth < 126 = subst (λ n. n < 126) (ap length (sym e) ∙ brackets_length depth bits) less in
    let top = pow_mono {i = depth} {j = 126} (omega (arith, many)) in
    omega (arith, small, one, top)

pub popped_of : (depth bits : ℕ) → 0 < depth
    → popped (brackets_of depth bits) ≡ Some (brackets_of (depth - 1) (bits / 2))
popped_of zero bits some = absurd (omega (arith, some))
popped_of (suc depth) bits some =
    let less : suc depth - 1 ≡ depth = omega arith in
    rw less refl
