use Rattle.std.proofs.Common.{refl}
use Rattle.fk_json.specs.Json.{is_space}
use Rattle.fk_json.specs.Runs.{stays_between}
use Rattle.fk_json.specs.Tokens.{string_step, token_step}
use Rattle.fk_json.specs.declared.mode.Mode.TheVariants.{Naming, Within}
use Rattle.fk_json.proofs.Passing.{runs_kept, runs_part}
use Rattle.fk_json.proofs.Staying.{space_between}
use Rattle.fk_json.proofs.run.mode_run.Goals as goal

pub returns-in-Naming : goal.returns-in-Naming
returns-in-Naming c =
    runs_part Naming string_step stays_between _ _ _ _ _ _ c.in-Naming.is (λ mode byte. refl) c.string_run-run.ensures

pub returns-in-Within : goal.returns-in-Within
returns-in-Within c =
    runs_part Within token_step stays_between _ _ _ _ _ _ c.in-Within.is (λ mode byte. refl) c.token_run-run.ensures

pub returns-in-First : goal.returns-in-First
returns-in-First c =
    runs_kept stays_between is_space _ _ _ _ (space_between c.args.mode c.in-First.is) c.requires c.space_end.ensures
