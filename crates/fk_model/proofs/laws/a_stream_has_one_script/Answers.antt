use Rattle.fk_model.proofs.OneScript.{one_script}
use Rattle.fk_model.proofs.laws.a_stream_has_one_script.Goals as goal

pub returns : goal.returns
returns c = one_script
