use Rattle.std.proofs.Common.{◌↔◌, ◌+◌, length}
use Rattle.fk_model.specs.Glob.{parts_of}
use Rattle.fk_filter.specs.Match.{MatchesEnd}
use Rattle.fk_filter.proofs.globbing.anywhere.Given as goal

-- what is left matches as all of it does
abbrev pub invariant-places : goal.invariant-places
invariant-places l =
    MatchesEnd (parts_of l.initial.left.pattern.now) l.initial.left.text.now
    ↔ MatchesEnd (parts_of l.left.pattern.now) l.left.text.now

abbrev pub decreases-places : goal.decreases-places
decreases-places l = length l.left.pattern.now + length l.left.text.now
