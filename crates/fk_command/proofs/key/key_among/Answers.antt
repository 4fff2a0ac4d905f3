use Rattle.std.proofs.Common.{codes}
use Rattle.fk_command.proofs.Keys.{has_utf8}
use Rattle.fk_command.proofs.key.key_among.Goals as goal

pub string_from-requires : goal.string_from-requires
string_from-requires c =
    let named = rw c.in-Some.is at c.in_ok-jid.ensures.some in
    rw c.bytes.ensures (has_utf8 c.args.text.now c.args.members.now (codes "jid") c.in-Some.jid named)
