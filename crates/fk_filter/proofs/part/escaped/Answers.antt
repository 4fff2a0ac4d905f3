use Rattle.fk_filter.proofs.Bytes.{escapes, escapes_nothing}
use Rattle.fk_filter.proofs.part.escaped.Goals as goal

pub returns-in-empty : goal.returns-in-empty
returns-in-empty c = escapes_nothing c.args.behind.now c.in-empty.len_below

pub returns-in-len1-up : goal.returns-in-len1-up
returns-in-len1-up c = escapes c.args.behind.now c.in-len1-up.len_at_least
