use Rattle.std.proofs.Common.{◌∙◌}
use Rattle.fk_job.specs.RowText.{written_member}
use Rattle.fk_job.proofs.writing.push_count.Goals as goal

pub returns : goal.returns
unfolding written_member
returns c = rw (c.as_bytes.ensures.value ∙ c.in_ok-text.ensures.ok) at c.push_bytes.ensures.ok
