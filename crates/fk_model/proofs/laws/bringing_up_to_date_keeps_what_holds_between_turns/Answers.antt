use Rattle.fk_model.specs.Bringing.{brought_up, moves_up}
use Rattle.fk_model.proofs.Leading.{closed_well}
use Rattle.fk_model.proofs.UpToDate.{up_are_rows, up_has_numbers}
use Rattle.fk_model.proofs.laws.bringing_up_to_date_keeps_what_holds_between_turns.Goals as goal

pub returns : goal.returns
returns c kept moment word well told within =
    closed_well kept (moves_up kept moment word) (brought_up kept moment word)
    (up_are_rows kept moment word well) (up_has_numbers kept moment word well told within) well
