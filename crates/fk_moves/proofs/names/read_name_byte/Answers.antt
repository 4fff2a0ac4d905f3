use Rattle.std.proofs.Common.{sym, ◌∙◌, get_or}
use Rattle.fk_job.specs.Fields.{is_queue_byte}
use Rattle.fk_moves.proofs.Stepping.{tells, failed_byte}
use Rattle.fk_moves.proofs.names.read_name_byte.Goals as goal

pub returns-else-are_queue_bytes : goal.returns-else-are_queue_bytes
returns-else-are_queue_bytes c =
    failed_byte is_queue_byte c.args.bytes.now c.in-len1-up.len_at_least
    (sym (tells is_queue_byte c.are_queue_bytes.result (get_or c.args.bytes.now 0 0) c.are_queue_bytes.ensures) ∙ c.if-are_queue_bytes.false)
