use Rattle.fk_model.specs.Bringing.{brought_up, moves_up}
use Rattle.fk_model.proofs.Leading.{closed_come, closed_leads}
use Rattle.fk_model.proofs.UpToDate.{up_are_rows, up_has_numbers}
use Rattle.fk_model.proofs.laws.the_moves_lead_to_what_is_up_to_date.Goals as goal

pub returns-clause-come : goal.returns-clause-come
returns-clause-come c kept moment word well =
    closed_come kept (moves_up kept moment word) (brought_up kept moment word) (up_are_rows kept moment word well)

pub returns-clause-stays : goal.returns-clause-stays
returns-clause-stays c kept moment word well =
    let rows = up_are_rows kept moment word well in (rows.none, rows.stays)

pub returns-clause-lead : goal.returns-clause-lead
returns-clause-lead c kept moment word well told within =
    closed_leads kept (moves_up kept moment word) (brought_up kept moment word)
    (up_are_rows kept moment word well) (up_has_numbers kept moment word well told within)
