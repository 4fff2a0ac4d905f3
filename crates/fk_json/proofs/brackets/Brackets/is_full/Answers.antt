use Rattle.std.proofs.Common.{◌∙◌, ap, length, nat_le, sym}
use Rattle.fk_json.specs.Brackets.{brackets_length}
use Rattle.fk_json.proofs.brackets.Brackets.is_full.Goals as goal

pub returns : goal.returns
returns c =
    ap (λ n. nat_le 126 n) (sym (brackets_length c.self.inside.depth c.self.inside.bits) ∙ ap length c.self.view_is)
