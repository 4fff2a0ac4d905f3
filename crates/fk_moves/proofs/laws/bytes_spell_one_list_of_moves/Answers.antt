use Rattle.fk_moves.proofs.ListLaws.{one_list}
use Rattle.fk_moves.proofs.laws.bytes_spell_one_list_of_moves.Goals as goal

pub returns : goal.returns
returns c = λ bytes moves others one other. one_list bytes moves others one other
