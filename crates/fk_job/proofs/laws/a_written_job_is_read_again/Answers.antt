use Rattle.fk_job.proofs.WrittenJob.{written_again}
use Rattle.fk_job.proofs.laws.a_written_job_is_read_again.Goals as goal

pub returns : goal.returns
returns c = written_again
