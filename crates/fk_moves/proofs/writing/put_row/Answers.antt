use Rattle.fk_moves.proofs.Filled.{put_then}
use Rattle.fk_moves.proofs.writing.put_row.Goals as goal

pub returns : goal.returns
returns c = put_then (put_then c.put_job.ensures c.put_word.ensures) c.put_rest.ensures
