use Rattle.fk_command.proofs.Answerable.{answerable}
use Rattle.fk_command.proofs.command.read_command.Goals as goal

pub returns-clause-range : goal.returns-clause-range
returns-clause-range c =
    answerable c.args.wid.now c.args.line.now c.in_ok-item.item c.command_for.result c.are_bytes.ensures
    c.requires.line c.command_for.ensures (rw (c.command_in.ensures, c.arguments_of.ensures) at c.in_ok-item.ensures.given)
    c.in_ok-item.ensures.form
