use Rattle.std.proofs.Common.{◌∙◌, sym, ap, arith}
use Rattle.fk_json.specs.Brackets.{popped}
use Rattle.fk_json.proofs.Bits.{popped_of}
use Rattle.fk_json.proofs.brackets.Brackets.pop.Goals as goal

pub returns : goal.returns
returns c =
    sym (popped_of c.self.inside.depth c.self.inside.bits (omega (arith, c.if-self-eq0.false))) ∙ ap popped c.self.view_is
