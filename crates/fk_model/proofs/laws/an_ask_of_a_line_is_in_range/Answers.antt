use Rattle.fk_model.proofs.LineRange.{line_in_range, script_in_range}
use Rattle.fk_model.proofs.laws.an_ask_of_a_line_is_in_range.Goals as goal

pub returns-clause-line : goal.returns-clause-line
returns-clause-line c = line_in_range

pub returns-clause-script : goal.returns-clause-script
returns-clause-script c = script_in_range
