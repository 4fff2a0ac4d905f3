-- What each request but a MUTATE makes of the row of a ticket.
use Rattle.std.proofs.Common.{◌≡◌, ◌≢◌, ◌∙◌, sym, refl, subst, ℕ, ◌<◌, ◌≤◌, ◌+◌, List, [], ◌∷◌, Bool, true, false, arith}
use Rattle.std.specs.Prelude.{All, Option, None, Some, ◌==◌}
use Rattle.std.specs.List.{enumerate_from}
use Rattle.std.specs.Option.{option_map_or}
use Rattle.std.proofs.lemmas.Option.{same_Some}
use Rattle.std.proofs.lemmas.List.Elements.{All-nil, All-cons, All-head, All-tail, All-weaker}
use Rattle.fk_job.specs.declared.job.Job.{Job}
use Rattle.fk_model.specs.declared.row.Row.{Row}
use Rattle.fk_model.specs.Rows.{ticket_of, row_of, IsByTicket, row_at}
use Rattle.fk_model.specs.State.{KeptState, State}
use Rattle.fk_model.specs.Orders.{rank_of}
use Rattle.fk_model.specs.Failing.{Reason, failed, failed_row}
use Rattle.fk_model.specs.Requests.{pushed, pushed_row, all_pushed, reserved_row, finished}
use Rattle.fk_model.specs.Said.{kept_and_said, only_said, ok, unknown_job}
use Rattle.fk_model.proofs.Filed.{changed_at}
use Rattle.fk_model.proofs.Lookups.{row_at_with_other}
use Rattle.fk_model.proofs.Tickets.{by_ticket_with}
use Rattle.fk_model.proofs.Orderly.{IsOrderly}
use Rattle.fk_model.proofs.Waiting.{IsFirstRow, IsLeased}
use Rattle.fk_model.proofs.Requested.{after_fetch}
use Rattle.fk_model.proofs.AtTicket.{at_one}

-- the row found under a ticket is the one that stands there
pub row_there : (rows : List (ℕ × Row)) (filed : ℕ × Row) (ticket : ℕ) (row : Row)
    → row_at rows (ticket_of filed) ≡ Some (row_of filed) → row_at rows ticket ≡ Some row
    → ticket_of filed ≡ ticket → row_of filed ≡ row
row_there rows filed ticket row stands at same =
    let here : row_at rows (ticket_of filed) ≡ Some row = rw same at in
    same_Some (row_of filed) row (sym stands ∙ here)

-- ---- jobs are pushed

-- the numbers from one on are no lower
pub numbers_from : (n : ℕ) (jobs : List Job) → All (λ one. n ≤ one.0) (enumerate_from n jobs)
numbers_from n [] = All-nil (λ one. n ≤ one.0)
numbers_from n (job ∷ jobs) =
    All-cons (λ one. n ≤ one.0) (n, job) (enumerate_from (n + 1) jobs) (omega arith)
    (All-weaker (λ one. n + 1 ≤ one.0) (λ one. n ≤ one.0) (λ one higher. omega (arith, higher))
    (enumerate_from (n + 1) jobs) (numbers_from (n + 1) jobs))

-- none of them is a lower ticket
pub lower_apart : (n ticket : ℕ) (jobs : List Job) → ticket < n
    → All (λ one. one.0 ≢ ticket) (enumerate_from n jobs)
lower_apart n ticket jobs lower =
    All-weaker (λ one. n ≤ one.0) (λ one. one.0 ≢ ticket) (λ one higher same. omega (arith, lower, higher, same))
    (enumerate_from n jobs) (numbers_from n jobs)

-- under another ticket all stays
pub pushes_at : (moment : ℕ) (jobs : List Job) (kept : KeptState) (ticket : ℕ) → IsByTicket kept.rows
    → All (λ one. one.0 ≢ ticket) (enumerate_from kept.next jobs)
    → row_at (all_pushed moment kept jobs).rows ticket ≡ row_at kept.rows ticket
pushes_at moment [] kept ticket by_ticket apart = refl
pushes_at moment (job ∷ jobs) kept ticket by_ticket apart =
    let rest = enumerate_from (kept.next + 1) jobs in
    pushes_at moment jobs (pushed moment kept job) ticket
    (by_ticket_with kept.rows kept.next (pushed_row moment kept.next job) by_ticket)
    (All-tail (λ one. one.0 ≢ ticket) (kept.next, job) rest apart)
    ∙ row_at_with_other kept.rows kept.next (pushed_row moment kept.next job) ticket by_ticket
    (λ same. All-head (λ one. one.0 ≢ ticket) (kept.next, job) rest apart (sym same))

-- ---- a job is fetched

pub fetch_at : (P : Option Row → Type 0) (s : State) (moment : ℕ) (wid : List ℕ) (found : Option (ℕ × Row))
    (ticket : ℕ) (row : Row) → IsOrderly s.kept → row_at s.kept.rows ticket ≡ Some row
    → ((filed : ℕ × Row) → found ≡ Some filed → IsFirstRow s.kept filed)
    → ((rank : ℕ) → rank_of row.place ≡ Some rank → P (Some (reserved_row moment wid row))) → P (Some row)
    → P (row_at (after_fetch s moment wid found).kept.rows ticket)
fetch_at P s moment wid None ticket row well at first here other = rw at other
fetch_at P s moment wid (Some filed) ticket row well at first here other =
    let is = first filed refl in
    rw (changed_at s.kept.rows (ticket_of filed) (reserved_row moment wid) (row_of filed) well.by_ticket is.stands)
    (at_one (λ so found. P found) s.kept.rows filed (Some (reserved_row moment wid (row_of filed))) ticket row
    (ticket_of filed == ticket) refl well.by_ticket at
    (λ same. let there : row_of filed ≡ row = row_there s.kept.rows filed ticket row is.stands at same in
    let waits : rank_of row.place ≡ Some is.rank = rw (← there) is.waits in
    subst (λ r. P (Some (reserved_row moment wid r))) (sym there) (here is.rank waits)) other)

-- ---- a job was done, or failed

-- a row that was found has this ticket
abbrev pub is_of : ℕ → Option (ℕ × Row) → Bool
is_of ticket found = option_map_or (λ filed. ticket_of filed == ticket) found false

pub ack_at : (P : Bool → Option Row → Type 0) (kept : KeptState) (found : Option (ℕ × Row)) (ticket : ℕ) (row : Row)
    → IsByTicket kept.rows → row_at kept.rows ticket ≡ Some row → P true None → P false (Some row)
    → P (is_of ticket found) (row_at (option_map_or (finished kept) found kept).rows ticket)
ack_at P kept None ticket row by_ticket at here other = rw at other
ack_at P kept (Some filed) ticket row by_ticket at here other =
    at_one P kept.rows filed None ticket row (ticket_of filed == ticket) refl by_ticket at (λ same. here) other

abbrev pub after_fail : State → Reason → ℕ → ℕ → Option (ℕ × Row) → KeptState
after_fail s reason moment word found =
    (option_map_or (λ filed. kept_and_said s (failed reason moment word s.kept filed) ok) found
    (only_said s unknown_job)).state.kept

pub fail_at : (P : Bool → Option Row → Type 0) (s : State) (reason : Reason) (moment word : ℕ)
    (found : Option (ℕ × Row)) (ticket : ℕ) (row : Row) → IsByTicket s.kept.rows
    → row_at s.kept.rows ticket ≡ Some row → ((filed : ℕ × Row) → found ≡ Some filed → IsLeased s.kept filed)
    → ((filed : ℕ × Row) → row_of filed ≡ row → P true (failed_row reason moment word filed)) → P false (Some row)
    → P (is_of ticket found) (row_at (after_fail s reason moment word found).rows ticket)
fail_at P s reason moment word None ticket row by_ticket at held here other = rw at other
fail_at P s reason moment word (Some filed) ticket row by_ticket at held here other =
    let is = held filed refl in
    at_one P s.kept.rows filed (failed_row reason moment word filed) ticket row (ticket_of filed == ticket) refl
    by_ticket at (λ same. here filed (row_there s.kept.rows filed ticket row is.stands at same)) other
