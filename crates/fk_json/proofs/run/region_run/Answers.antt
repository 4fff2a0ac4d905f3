use Rattle.std.proofs.Common.{refl}
use Rattle.fk_json.specs.Json.{is_space}
use Rattle.fk_json.specs.Runs.{stays, stays_between}
use Rattle.fk_json.specs.declared.standing.Region.TheVariants.{Between}
use Rattle.fk_json.proofs.Passing.{runs_kept, runs_part}
use Rattle.fk_json.proofs.Staying.{space_around}
use Rattle.fk_json.proofs.run.region_run.Goals as goal

pub returns-in-Between : goal.returns-in-Between
returns-in-Between c =
    runs_part Between stays_between stays _ _ _ _ _ _ c.in-Between.is (λ mode byte. refl) c.mode_run-run.ensures

pub returns-in-Before : goal.returns-in-Before
returns-in-Before c =
    runs_kept stays is_space _ _ _ _ (space_around c.args.region c.in-Before.is) c.requires c.space_end.ensures
