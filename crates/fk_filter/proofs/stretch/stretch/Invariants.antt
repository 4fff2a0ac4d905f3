use Rattle.std.proofs.Common.{◌≤◌, length}
use Rattle.fk_model.specs.Glob.{parts_of}
use Rattle.fk_filter.specs.Stretches.{LeadsTo}
use Rattle.fk_filter.proofs.stretch.stretch.Given as goal

-- what is left matches as all of it does, and is no more
abbrev pub invariant-parts : goal.invariant-parts
invariant-parts l =
    LeadsTo (parts_of l.initial.left.pattern.now) l.initial.left.text.now
    (parts_of l.left.pattern.now) l.left.text.now
    × (length l.left.pattern.now ≤ length l.initial.left.pattern.now)
    × (length l.left.text.now ≤ length l.initial.left.text.now)

abbrev pub decreases-parts : goal.decreases-parts
decreases-parts l = length l.left.pattern.now
