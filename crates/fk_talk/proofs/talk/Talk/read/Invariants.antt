use Rattle.std.proofs.Common.{length}
use Rattle.fk_talk.specs.Steps.{Goes}
use Rattle.fk_talk.proofs.talk.Talk.read.Given as goal

-- the lines so far were answered
abbrev pub invariant-lines : goal.invariant-lines
invariant-lines l = Goes l.initial.self l.self

abbrev pub decreases-lines : goal.decreases-lines
decreases-lines l = length l.self.waiting
