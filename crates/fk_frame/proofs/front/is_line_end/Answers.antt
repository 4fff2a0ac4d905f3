use Rattle.std.proofs.Common.{◌≡◌, ◌++◌, arith, codes, get_or, rules, ap}
use Rattle.std.proofs.lemmas.List.{nil_from_length}
use Rattle.fk_frame.proofs.Fronted.{cut_return}
use Rattle.fk_frame.proofs.front.is_line_end.Goals as goal

pub returns-in-empty : goal.returns-in-empty
returns-in-empty c =
    (codes "\r\n", omega arith, ap (λ b. b ++ codes "\r\n") (nil_from_length c.args.bytes.now (omega arith)))

pub returns-in-13 : goal.returns-in-13
returns-in-13 c =
    let return : get_or c.args.bytes.now 0 0 ≡ 13 = search rules in
    (codes "\n", omega arith, cut_return c.args.bytes.now (omega arith) return)
