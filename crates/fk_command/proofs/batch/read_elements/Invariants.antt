use Rattle.std.proofs.Common.{take}
use Rattle.fk_command.specs.Batches.{IsReadAs}
use Rattle.fk_command.proofs.batch.read_elements.Given as goal

-- the elements so far
abbrev pub invariant-loop-span : goal.invariant-loop-span
invariant-loop-span l = IsReadAs l.text (take l.span-index l.spans) l.batch
