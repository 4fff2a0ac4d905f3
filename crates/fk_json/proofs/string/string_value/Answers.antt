use Rattle.fk_json.proofs.Strings.{finds_again, finds_string, finds_utf8, no_string_quoted, spelling_string}
use Rattle.fk_json.proofs.string.string_value.Goals as goal

pub returns-in-Ok-clause-some : goal.returns-in-Ok-clause-some
returns-in-Ok-clause-some c = finds_string _ _ c.in-Ok.ensures.cases.1 c.quoted.ensures.some

pub returns-in-Ok-clause-none : goal.returns-in-Ok-clause-none
returns-in-Ok-clause-none c e value = no_string_quoted _ value (c.quoted.ensures.none e value)

pub returns-in-Ok-clause-utf8 : goal.returns-in-Ok-clause-utf8
returns-in-Ok-clause-utf8 c = finds_utf8 _ _ c.in-Ok.ensures.cases.1 c.quoted.ensures.some

pub returns-in-Ok-clause-again : goal.returns-in-Ok-clause-again
returns-in-Ok-clause-again c value utf8 e =
    finds_again _ _ value utf8 e c.quoted.ensures.some c.quoted.ensures.none

pub returns-in-Err-clause-none : goal.returns-in-Err-clause-none
returns-in-Err-clause-none c e value is = c.in-Err.ensures.cases.0 is.utf8

pub returns-in-Err-clause-again : goal.returns-in-Err-clause-again
returns-in-Err-clause-again c value utf8 e =
    absurd (c.in-Err.ensures.cases.0 (spelling_string _ value utf8 e).utf8)
