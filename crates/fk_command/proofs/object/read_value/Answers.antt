use Rattle.fk_command.proofs.ReadValues.{reads_none, reads_value, says_no}
use Rattle.fk_command.proofs.object.read_value.Goals as goal

pub returns-in-Ok : goal.returns-in-Ok
returns-in-Ok c = reads_value c.args.text.now _ c.in-Ok.ensures.ok

pub returns-in-Err-2 : goal.returns-in-Err-2
returns-in-Err-2 c =
    reads_none c.args.text.now
    (c.in-Err.ensures.err (says_no _ c.is_memory.result c.if-is_memory.false c.is_memory.ensures))
