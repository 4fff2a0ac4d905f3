use Rattle.fk_command.proofs.Keys.{has_keys, no_key_there, no_key_so_deep}
use Rattle.fk_command.proofs.key.key_of.Goals as goal

pub returns-in-Ok : goal.returns-in-Ok
returns-in-Ok c =
    has_keys c.args.text.now c.in-Ok.members _ c.in-Ok.ensures.ok c.in-Ok.ensures.whole
    (rw c.as_slice.ensures at c.key_among.ensures)

pub returns-in-Err-Syntax : goal.returns-in-Err-Syntax
returns-in-Err-Syntax c =
    no_key_there c.args.text.now _ c.in-Err-Syntax.field-0 _ c.new.ensures.bytes
    c.in-Err-Syntax.field-0-is c.in-Err-Syntax.ensures.whole

pub returns-in-Err-TooDeep : goal.returns-in-Err-TooDeep
returns-in-Err-TooDeep c =
    no_key_so_deep c.args.text.now _ c.in-Err-TooDeep.field-0 _ c.new-in-Err-TooDeep.ensures.bytes
    c.in-Err-TooDeep.field-0-is c.in-Err-TooDeep.ensures.whole
