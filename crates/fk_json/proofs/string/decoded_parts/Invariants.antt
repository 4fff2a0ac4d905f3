use Rattle.std.proofs.Common.{length}
use Rattle.fk_json.proofs.Parts.{Reading}
use Rattle.fk_json.proofs.string.decoded_parts.Given as goal

-- the value so far, and what is left, are what the whole stands for
abbrev pub invariant-parts : goal.invariant-parts
invariant-parts l = Reading l.rest l.high l.value l.inside

abbrev pub decreases-parts : goal.decreases-parts
decreases-parts l = length l.rest
