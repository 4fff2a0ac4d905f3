use Rattle.std.proofs.Common.{sym, ◌∙◌}
use Rattle.fk_json.proofs.Integers.{integer_from_test, no_integer, reads_integer, utf8_of_integer}
use Rattle.fk_json.proofs.number.integer_value.Goals as goal

pub returns-then-not-is_integer : goal.returns-then-not-is_integer
returns-then-not-is_integer c h = no_integer _ _ c.is_integer.ensures c.if-not-is_integer.true h.0

pub returns-in-Ok : goal.returns-in-Ok
returns-in-Ok c =
    reads_integer _ _ (integer_from_test _ (sym c.is_integer.ensures ∙ c.if-not-is_integer.false))
    (rw c.in-Ok.ensures.cases.0 at c.parsed.ensures)

pub returns-in-Err : goal.returns-in-Err
returns-in-Err c h = c.in-Err.ensures.cases.0 (utf8_of_integer _ h.0)
