use Rattle.std.proofs.Common.{◌∙◌, ap}
use Rattle.std.specs.Int.{w64, from_be_bytes}
use Rattle.fk_journal.proofs.Due.{number_is}
use Rattle.fk_journal.proofs.reading.number_at.Goals as goal

-- what was read are the bytes that spell the number
pub returns-clause-ok : goal.returns-clause-ok
returns-clause-ok g c = λ tells.
    number_is c.args.at c.from_be_bytes.result _
    (g.met.D.Disk.has_bytes c.args.disk.now _ _ (g.met.D.Disk.has_content c.args.disk.now tells))
    (c.requires.within tells) (c.from_be_bytes.ensures ∙ ap (from_be_bytes w64) (c.in_ok-read_at.ensures.ok tells))
