use Rattle.fk_job.specs.Fields.{is_queue_byte}
use Rattle.fk_moves.specs.Fields.{byte_where}
use Rattle.fk_moves.proofs.Repeated.{IsNamed}
use Rattle.fk_moves.proofs.names.read_name.Given as goal

-- the bytes so far, and those of the bytes that are left, are all
abbrev pub invariant-loop : goal.invariant-loop
invariant-loop l = IsNamed (byte_where is_queue_byte) l.bytes l.count l.counter l.rest
