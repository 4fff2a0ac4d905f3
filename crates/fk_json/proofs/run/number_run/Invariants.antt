use Rattle.std.proofs.Common.{length, ◌-◌}
use Rattle.fk_json.specs.Runs.{Passes}
use Rattle.fk_json.specs.Tokens.{number_step}
use Rattle.fk_json.proofs.run.number_run.Given as goal

-- the bytes up to here lead on
abbrev pub invariant-parts : goal.invariant-parts
invariant-parts l = Passes number_step l.text l.fn.from l.fn.mode l.to l.mode

abbrev pub decreases-parts : goal.decreases-parts
decreases-parts l = length l.text - l.to
