-- What time alone makes of the row of a ticket: what becomes of one of the rows that are due, or what stands there.
use Rattle.std.proofs.Common.{◌≡◌, ◌≢◌, sym, ℕ, ◌+◌, List, [], ◌∷◌, length, inl, inr, arith}
use Rattle.std.specs.Prelude.{All, Option, None, Some, slice_index_or}
use Rattle.std.proofs.lemmas.List.Elements.{All-head, All-tail}
use Rattle.fk_model.specs.declared.row.Row.{Row}
use Rattle.fk_model.specs.Rows.{ticket_of, row_of, row_at}
use Rattle.fk_model.specs.State.{KeptState}
use Rattle.fk_model.specs.Between.{IsWellKept}
use Rattle.fk_model.specs.Due.{over, expired, due}
use Rattle.fk_model.specs.Failing.{expiry, failed_row}
use Rattle.fk_model.specs.Bringing.{brought_up, waiting_row}
use Rattle.fk_model.proofs.Tickets.{row_holds}
use Rattle.fk_model.proofs.Outcomes.{Outcome, ticket_in}
use Rattle.fk_model.proofs.Settling.{IsLater, IsAmong, IsPending}
use Rattle.fk_model.proofs.Chosen.{IsChosen, each_chosen}
use Rattle.fk_model.proofs.Falling.{dead_moment, lease_moment, wait_moment, each_ended, all_due_taken}
use Rattle.fk_model.proofs.BroughtUp.{outcomes_due, filed_due, pending_filed, all_three, leaving_all, failing_all, entering_all, are_outcomes}
use Rattle.fk_model.proofs.UpToDate.{up_rows}
use Rattle.fk_model.proofs.AtTicket.{at_ticket, at_none}

-- what is to be shown of rows of the three lists, and of one that isn't due
pub record IsByTime (P : ℕ × Row → Option Row → Type 0) (kept : KeptState) (moment word : ℕ) : Type 0 where
  pub dead : (filed : ℕ × Row) → IsChosen dead_moment moment kept.rows filed → P filed None
  pub leased : (filed : ℕ × Row) → IsChosen lease_moment moment kept.rows filed
      → P filed (failed_row expiry moment word filed)
  pub waits : (rank : ℕ) (filed : ℕ × Row) → IsChosen wait_moment moment kept.rows filed
      → P filed (Some (waiting_row moment rank (row_of filed)))
  pub stays : (filed : ℕ × Row) → IsLater moment (row_of filed) → P filed (Some (row_of filed))

each_by_time : (P : ℕ × Row → Option Row → Type 0) (kept : KeptState) (moment word : ℕ) → IsWellKept kept
    → IsByTime P kept moment word → All (λ one. P one.filed one.becomes) (outcomes_due kept moment word)
each_by_time P kept moment word well is =
    let Holds = λ (one : Outcome). P one.filed one.becomes in
    all_three Holds kept moment word
    (leaving_all Holds (IsChosen dead_moment moment kept.rows) (over kept moment) is.dead
    (each_chosen dead_moment moment kept.rows well.by_ticket))
    (failing_all Holds (IsChosen lease_moment moment kept.rows) expiry moment word (expired kept moment)
    is.leased (each_ended moment kept.rows well.by_ticket))
    (entering_all Holds (IsChosen wait_moment moment kept.rows) moment kept.next
    (kept.next + length (due kept moment)) (due kept moment) (omega arith)
    (λ rank filed below. is.waits rank filed)
    (each_chosen wait_moment moment kept.rows well.by_ticket))

not_among : (ticket : ℕ) (all : List Outcome) → All (λ one. ticket_in one ≢ ticket) all → IsAmong ticket all → ⊥
not_among ticket [] apart is = is
not_among ticket (one ∷ all) apart (inl same) = All-head (λ x. ticket_in x ≢ ticket) one all apart (sym same)
not_among ticket (one ∷ all) apart (inr rest) =
    not_among ticket all (All-tail (λ x. ticket_in x ≢ ticket) one all apart) rest

later_apart : (moment : ℕ) (filed : ℕ × Row) (all : List Outcome) → IsPending moment all filed
    → All (λ one. ticket_in one ≢ ticket_of filed) all → IsLater moment (row_of filed)
later_apart moment filed all (inl later) apart = later
later_apart moment filed all (inr is) apart = absurd (not_among (ticket_of filed) all apart is)

-- what holds of each of them holds of the row of a ticket and of what time has made of it
pub by_time : (P : ℕ × Row → Option Row → Type 0) (kept : KeptState) (moment word : ℕ) → IsWellKept kept
    → IsByTime P kept moment word → (ticket : ℕ) (row : Row) → row_at kept.rows ticket ≡ Some row
    → P (ticket, row) (row_at (brought_up kept moment word).rows ticket)
by_time P kept moment word well is ticket row at =
    let all = outcomes_due kept moment word in
    let are = are_outcomes kept moment word well in
    let pending : IsPending moment all (ticket, row) =
    row_holds (IsPending moment all) kept.rows ticket row
    (λ k d within. pending_filed moment (slice_index_or kept.rows k d) all
    (rw (filed_due kept moment word) (all_due_taken moment kept.rows well.by_ticket k d within))) at in
    rw (up_rows kept moment word)
    (at_ticket P kept.rows all ticket row well.by_ticket are.stand at (each_by_time P kept moment word well is)
    (λ apart. is.stays (ticket, row) (later_apart moment (ticket, row) all pending apart)))

-- time alone brings no row
pub none_by_time : (kept : KeptState) (moment word ticket : ℕ) → IsWellKept kept → row_at kept.rows ticket ≡ None
    → row_at (brought_up kept moment word).rows ticket ≡ None
none_by_time kept moment word ticket well at =
    rw (up_rows kept moment word)
    (at_none kept.rows (outcomes_due kept moment word) ticket well.by_ticket
    (are_outcomes kept moment word well).stand at)
