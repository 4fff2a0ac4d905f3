use Rattle.std.proofs.Common.{Some, subst, sym}
use Rattle.fk_filter.specs.Stretches.{BeginsWith}
use Rattle.fk_filter.proofs.Bytes.{first_and_behind}
use Rattle.fk_filter.proofs.part.first_part.Goals as goal

pub returns-in-len1-up : goal.returns-in-len1-up
returns-in-len1-up c =
    subst (λ bytes. BeginsWith bytes (Some c.part_at.result))
    (sym (first_and_behind c.args.pattern.now c.in-len1-up.len_at_least)) c.part_at.ensures
