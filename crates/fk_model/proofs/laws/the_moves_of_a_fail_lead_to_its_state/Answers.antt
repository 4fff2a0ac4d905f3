use Rattle.fk_model.specs.Said.{fail_effect}
use Rattle.fk_model.specs.Turns.{moves_of_fail}
use Rattle.fk_model.proofs.Leading.{closed_come, closed_leads}
use Rattle.fk_model.proofs.Orderly.{orderly}
use Rattle.fk_model.proofs.FailMoves.{fail_rows, fail_numbers}
use Rattle.fk_model.proofs.laws.the_moves_of_a_fail_lead_to_its_state.Goals as goal

pub returns-clause-come : goal.returns-clause-come
returns-clause-come c s jid reason moment word ready =
    closed_come s.kept (moves_of_fail s.kept jid reason moment word) (fail_effect s jid reason moment word).state.kept
    (fail_rows s jid reason moment word (orderly s.kept ready.kept))

pub returns-clause-stays : goal.returns-clause-stays
returns-clause-stays c s jid reason moment word ready =
    let rows = fail_rows s jid reason moment word (orderly s.kept ready.kept) in (rows.none, rows.stays)

pub returns-clause-lead : goal.returns-clause-lead
returns-clause-lead c s jid reason moment word ready range told within =
    closed_leads s.kept (moves_of_fail s.kept jid reason moment word) (fail_effect s jid reason moment word).state.kept
    (fail_rows s jid reason moment word (orderly s.kept ready.kept))
    (fail_numbers s jid reason moment word ready.kept
    (record { errtype = range.1; message = range.2; backtrace = range.3 }) told within)
