use Rattle.std.proofs.Common.{arith}
use Rattle.fk_json.proofs.Bits.{bit_small, pushed_small}
use Rattle.fk_json.proofs.brackets.Brackets.push.Goals as goal

pub overflow_mul-result : goal.overflow_mul-result
overflow_mul-result c =
    let fits = pushed_small _ _ 0 _ c.self.view_is c.requires c.self.invariant.0 (omega arith) in
    omega (arith, fits)

pub overflow_add-result-2 : goal.overflow_add-result-2
overflow_add-result-2 c =
    let fits = pushed_small _ _ _ _ c.self.view_is c.requires c.self.invariant.0 (bit_small c.args.bracket) in
    omega (arith, c.bit_of.ensures, fits)
