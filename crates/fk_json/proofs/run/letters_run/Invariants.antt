use Rattle.std.proofs.Common.{length, ◌-◌}
use Rattle.fk_json.specs.Runs.{Passes}
use Rattle.fk_json.specs.Tokens.{letters_step}
use Rattle.fk_json.proofs.run.letters_run.Given as goal

-- the bytes up to here lead on
abbrev pub invariant-bytes : goal.invariant-bytes
invariant-bytes l = Passes letters_step l.text l.fn.from l.fn.left l.to l.left

abbrev pub decreases-bytes : goal.decreases-bytes
decreases-bytes l = length l.text - l.to
