use Rattle.fk_io.proofs.Giving.{told_one}
use Rattle.fk_server.specs.Piped.{IsSalted}
use Rattle.fk_server.proofs.piped.salt_of.Goals as goal

pub returns-in-Some : goal.returns-in-Some
returns-in-Some g c =
    rw c.in-Some.is (told_one _ _ _ c.roll.ensures.told)
