use Rattle.fk_lives.proofs.Doubts.{doubt_of_refused}
use Rattle.fk_lives.proofs.laws.lives.what_is_in_doubt_is_of_a_refused_entry.Goals as goal

pub returns : goal.returns
returns c = doubt_of_refused
