-- The moves of a fetch and of an acknowledgement: they fit, and they lead to the state behind it.
use Rattle.std.proofs.Common.{◌≡◌, ◌∙◌, sym, ap, refl, ℕ, ◌<◌, ◌≤◌, List, [], ◌∷◌, arith}
use Rattle.std.specs.Prelude.{None, Some, IfSome, option_map}
use Rattle.std.proofs.lemmas.List.Elements.{All-nil, All-cons}
use Rattle.fk_time.specs.Moments.{greatest}
use Rattle.fk_model.specs.declared.row.Row.{Row}
use Rattle.fk_model.specs.declared.move_.Move.{Move}
use Rattle.fk_model.specs.declared.move_.Move.TheVariants.{Add, Drop}
use Rattle.fk_model.specs.Limits.{greatest_next}
use Rattle.fk_model.specs.Rows.{ticket_of, row_of, row_at, with_changed, without_row}
use Rattle.fk_model.specs.State.{KeptState}
use Rattle.fk_model.specs.Orders.{rank_of}
use Rattle.fk_job.specs.Spellings.{IsText}
use Rattle.fk_model.specs.Spellings.{HasSpelling}
use Rattle.fk_model.specs.Between.{IsAboveAll, IsWellKept}
use Rattle.fk_model.specs.Changes.{put_row, after_move, Fits, FitInTurn, IsTotals}
use Rattle.fk_model.specs.Requests.{reserved_row, reserved, finished}
use Rattle.fk_model.specs.Turns.{move_to}
use Rattle.fk_model.proofs.Filed.{changed_at}
use Rattle.fk_model.proofs.Lookups.{row_at_changed, row_at_without}
use Rattle.fk_model.proofs.Tickets.{all_changed, all_without, row_holds}
use Rattle.fk_model.proofs.Orderly.{IsOrderly, orderly}
use Rattle.fk_model.proofs.Leading.{AreRowsOf, HasNumbers}
use Rattle.fk_model.proofs.Waiting.{IsFirstRow, IsLeased, not_queued}

-- ---- nothing is done

pub nothing_is_rows : (kept : KeptState) → AreRowsOf kept [] kept
nothing_is_rows kept = record {
  rows = refl;
  none = λ e. refl;
  stays = λ e. refl;
  plain = All-nil (λ move. ¬ IsTotals move);
}

pub nothing_has_numbers : (kept : KeptState) → IsWellKept kept → kept.next ≤ greatest_next
    → HasNumbers kept [] kept
unfolding FitInTurn
nothing_has_numbers kept well room = record {
  fit = tt;
  number = record { within = room; risen = omega arith; above = well.above };
  processed = well.processed;
  failures = well.failures;
}

-- ---- one row is handed out

-- the move of a row that is handed out
abbrev pub handing : ℕ → List ℕ → ℕ × Row → Move
handing moment wid filed = move_to (ticket_of filed) (reserved_row moment wid (row_of filed))

told_change : Row → ℕ → List ℕ → Row → Row
told_change row moment wid =
    put_row row.stamp.enqueued row.stamp.failure (reserved_row moment wid row).place

handed_rows : (kept : KeptState) (moment : ℕ) (wid : List ℕ) (filed : ℕ × Row) → IsOrderly kept
    → IsFirstRow kept filed
    → (reserved moment wid kept (ticket_of filed)).rows ≡ (after_move kept (handing moment wid filed)).rows
unfolding after_move
handed_rows kept moment wid filed well first =
    changed_at kept.rows (ticket_of filed) (reserved_row moment wid) (row_of filed) well.by_ticket
    first.stands
    ∙ sym (changed_at kept.rows (ticket_of filed)
    (put_row (row_of filed).stamp.enqueued (row_of filed).stamp.failure
    (reserved_row moment wid (row_of filed)).place)
    (row_of filed) well.by_ticket first.stands)

handed_changes : (kept : KeptState) (moment : ℕ) (wid : List ℕ) (filed : ℕ × Row) → IsOrderly kept
    → IsFirstRow kept filed → reserved moment wid kept (ticket_of filed) ≡ kept → ⊥
handed_changes kept moment wid filed well first same =
    let rows : with_changed kept.rows (ticket_of filed) (reserved_row moment wid) ≡ kept.rows =
    ap (λ (k : KeptState). k.rows) same in
    let changed : row_at kept.rows (ticket_of filed)
    ≡ option_map (reserved_row moment wid) (row_at kept.rows (ticket_of filed)) =
    ap (λ xs. row_at xs (ticket_of filed)) (sym rows)
    ∙ row_at_changed kept.rows (ticket_of filed) (reserved_row moment wid) well.by_ticket in
    let both : Some (row_of filed) ≡ Some (reserved_row moment wid (row_of filed)) =
    rw first.stands at changed in
    let place : Some (rank_of (row_of filed).place) ≡ Some None =
    ap (option_map (λ (row : Row). rank_of row.place)) both in
    let waits = first.waits in
    absurd (cc)

pub handed_are_rows : (kept : KeptState) (moment : ℕ) (wid : List ℕ) (filed : ℕ × Row) → IsOrderly kept
    → IsFirstRow kept filed
    → AreRowsOf kept (handing moment wid filed ∷ []) (reserved moment wid kept (ticket_of filed))
handed_are_rows kept moment wid filed well first = record {
  rows = handed_rows kept moment wid filed well first;
  none = λ e. absurd (cc);
  stays = λ same. absurd (handed_changes kept moment wid filed well first same);
  plain = All-cons (λ move. ¬ IsTotals move) (handing moment wid filed) [] (λ total. total)
      (All-nil (λ move. ¬ IsTotals move));
}

handed_above : (kept : KeptState) (moment : ℕ) (wid : List ℕ) (filed : ℕ × Row) → IsWellKept kept
    → IsFirstRow kept filed
    → IsAboveAll kept.next (after_move kept (handing moment wid filed)).rows
handed_above kept moment wid filed well first =
    let before = row_holds (λ x. ticket_of x < kept.next) kept.rows (ticket_of filed) (row_of filed)
    well.above.tickets first.stands in
    rw (← handed_rows kept moment wid filed (orderly kept well) first)
    (record {
      tickets = all_changed (λ x. ticket_of x < kept.next) kept.rows (ticket_of filed)
          (reserved_row moment wid) (row_of filed) well.by_ticket first.stands well.above.tickets before;
      ranks = all_changed (λ x. IfSome (rank_of (row_of x).place) (λ rank. rank < kept.next)) kept.rows
          (ticket_of filed) (reserved_row moment wid) (row_of filed) well.by_ticket first.stands
          well.above.ranks tt;
    })

spelled_at : (kept : KeptState) (filed : ℕ × Row) → IsWellKept kept
    → row_at kept.rows (ticket_of filed) ≡ Some (row_of filed)
    → HasSpelling (Add (ticket_of filed) (row_of filed))
spelled_at kept filed well stands =
    row_holds (λ x. HasSpelling (Add (ticket_of x) (row_of x))) kept.rows (ticket_of filed)
    (row_of filed) well.spelled stands

handed_fits : (kept : KeptState) (moment : ℕ) (wid : List ℕ) (filed : ℕ × Row) → IsWellKept kept
    → IsText wid → moment ≤ greatest → IsFirstRow kept filed → Fits kept (handing moment wid filed)
handed_fits kept moment wid filed well text within first =
    let spelled = spelled_at kept filed well first.stands in
    record {
      spelled = (
        spelled.0,
        record {
          when = spelled.1.rest.when;
          failed = spelled.1.rest.failed;
          stands = (text, within, omega arith);
        },
      );
      allowed = rw first.stands first.first;
    }

pub handed_have_numbers : (kept : KeptState) (moment : ℕ) (wid : List ℕ) (filed : ℕ × Row)
    → IsWellKept kept → IsText wid → moment ≤ greatest → kept.next ≤ greatest_next
    → IsFirstRow kept filed
    → HasNumbers kept (handing moment wid filed ∷ []) (reserved moment wid kept (ticket_of filed))
unfolding FitInTurn after_move
handed_have_numbers kept moment wid filed well text within room first = record {
  fit = (handed_fits kept moment wid filed well text within first, tt);
  number = record {
    within = room;
    risen = omega arith;
    above = handed_above kept moment wid filed well first;
  };
  processed = well.processed;
  failures = well.failures;
}

-- ---- one row leaves

gone : (kept : KeptState) (filed : ℕ × Row) → IsLeased kept filed → finished kept filed ≡ kept → ⊥
gone kept filed held same =
    let rows : without_row kept.rows (ticket_of filed) ≡ kept.rows = ap (λ (k : KeptState). k.rows) same in
    let none : row_at kept.rows (ticket_of filed) ≡ None =
    ap (λ xs. row_at xs (ticket_of filed)) (sym rows) ∙ row_at_without kept.rows (ticket_of filed) in
    let stands = held.stands in
    absurd (cc)

pub finished_are_rows : (kept : KeptState) (filed : ℕ × Row) → IsLeased kept filed
    → AreRowsOf kept (Drop (ticket_of filed) ∷ []) (finished kept filed)
unfolding after_move
finished_are_rows kept filed held = record {
  rows = refl;
  none = λ e. absurd (cc);
  stays = λ same. absurd (gone kept filed held same);
  plain = All-cons (λ move. ¬ IsTotals move) (Drop (ticket_of filed)) [] (λ total. total)
      (All-nil (λ move. ¬ IsTotals move));
}

pub finished_have_numbers : (kept : KeptState) (filed : ℕ × Row) → IsWellKept kept
    → kept.next ≤ greatest_next → IsLeased kept filed
    → HasNumbers kept (Drop (ticket_of filed) ∷ []) (finished kept filed)
unfolding FitInTurn after_move
finished_have_numbers kept filed well room held = record {
  fit = (
    record {
      spelled = (spelled_at kept filed well held.stands).0;
      allowed = rw held.stands (not_queued (row_of filed).place held.with_worker);
    },
    tt,
  );
  number = record {
    within = room;
    risen = omega arith;
    above = record {
      tickets = all_without (λ x. ticket_of x < kept.next) kept.rows (ticket_of filed)
          well.above.tickets;
      ranks = all_without (λ x. IfSome (rank_of (row_of x).place) (λ rank. rank < kept.next)) kept.rows
          (ticket_of filed) well.above.ranks;
    };
  };
  processed = omega arith;
  failures = well.failures;
}
