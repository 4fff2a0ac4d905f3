use Rattle.std.proofs.Common.{◌≡◌}
use Rattle.fk_job.specs.Fields.{default_reserve}
use Rattle.fk_job.specs.Values.{IsReserveIn}
use Rattle.fk_job.proofs.OneValue.{none_given}
use Rattle.fk_job.proofs.fields.reserve_of.Goals as goal

pub returns-in-Some-clause-none : goal.returns-in-Some-clause-none
returns-in-Some-clause-none c =
    none_given c.reserve_in.result _ c.in-Some.value.now (λ seconds. seconds ≡ default_reserve) IsReserveIn
    c.in-Some.ensures c.reserve_in.ensures.none
