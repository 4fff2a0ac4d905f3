-- What stands under a ticket behind a MUTATE: what becomes of a row that it takes, or what stood there.
use Rattle.std.proofs.Common.{◌≡◌, ◌≢◌, refl, ℕ, ◌+◌, List, [], ◌∷◌, Bool, true, false, length, arith}
use Rattle.std.specs.Prelude.{All, Option, None, Some, ◌==◌, slice_index_or}
use Rattle.std.proofs.lemmas.List.Elements.{All-head, All-tail}
use Rattle.std.proofs.lemmas.List.Folds.{list_any_at}
use Rattle.fk_model.specs.declared.row.Row.{Row}
use Rattle.fk_model.specs.declared.mutation.Cmd.{Cmd}
use Rattle.fk_model.specs.declared.mutation.Cmd.TheVariants.{Kill, Discard, Requeue, Clear}
use Rattle.fk_model.specs.declared.mutation.Filter.{Filter}
use Rattle.fk_model.specs.declared.mutation.Target.{Target}
use Rattle.fk_model.specs.Rows.{ticket_of, row_of, row_at}
use Rattle.fk_model.specs.State.{KeptState}
use Rattle.fk_model.specs.Orders.{is_working}
use Rattle.fk_model.specs.Mutated.{mutated, taken}
use Rattle.fk_model.specs.PushEnds.{PushStands}
use Rattle.fk_model.proofs.Cuts.{is_same, is_other}
use Rattle.fk_model.proofs.Orderly.{IsOrderly}
use Rattle.fk_model.proofs.Outcomes.{Outcome, ticket_in, row_in}
use Rattle.fk_model.proofs.BroughtUp.{filed_in, all_filed, leaving_all, entering_all}
use Rattle.fk_model.proofs.OfSets.{taken_are}
use Rattle.fk_model.proofs.InSets.{is_among, push_ended_taken}
use Rattle.fk_model.proofs.Mutating.{mutating, filed_mutating, killing_all, are_mutated, mutated_rows}
use Rattle.fk_model.proofs.AtTicket.{at_ticket, at_none}

-- ---- the tickets of the rows that are taken

-- each row has a ticket that is among theirs
each_among : (rows : List (ℕ × Row)) → All (λ filed. is_among (ticket_of filed) rows ≡ true) rows
each_among rows k d within =
    let ticket = ticket_of (slice_index_or rows k d) in
    list_any_at (λ x. ticket_of x == ticket) rows k d within (is_same ticket ticket refl)

-- a ticket that is none of theirs is not among them
none_filed : (ticket : ℕ) (all : List Outcome) → All (λ one. ticket_in one ≢ ticket) all
    → is_among ticket (filed_in all) ≡ false
none_filed ticket [] apart = refl
none_filed ticket (one ∷ all) apart =
    rw (is_other (ticket_in one) ticket (All-head (λ x. ticket_in x ≢ ticket) one all apart))
    (none_filed ticket all (All-tail (λ x. ticket_in x ≢ ticket) one all apart))

-- ---- what stands under a ticket

-- what holds of each row that is taken holds of those of which something becomes
taken_all : (R : ℕ × Row → Type 0) (cmd : Cmd) (moment n : ℕ) (rows : List (ℕ × Row)) → All R rows
    → All (λ one. R one.filed) (mutating cmd moment n rows)
taken_all R cmd moment n rows each =
    all_filed R (mutating cmd moment n rows) (rw (filed_mutating cmd moment n rows) each)

-- what holds of each row that is taken and of what becomes of it, and of a row that isn't taken, holds of the row of
-- a ticket
pub mutate_at : (P : Bool → ℕ × Row → Option Row → Type 0) (cmd : Cmd) (target : Target) (filter : Filter)
    (moment : ℕ) (kept : KeptState) (ticket : ℕ) (row : Row) → IsOrderly kept → row_at kept.rows ticket ≡ Some row
    → All (λ one. P true one.filed one.becomes) (mutating cmd moment kept.next (taken cmd target filter kept))
    → P false (ticket, row) (Some row)
    → P (is_among ticket (taken cmd target filter kept)) (ticket, row)
    (row_at (mutated cmd moment kept (taken cmd target filter kept)).rows ticket)
mutate_at P cmd target filter moment kept ticket row well at here other =
    let rows = taken cmd target filter kept in
    let all = mutating cmd moment kept.next rows in
    let among = taken_all (λ filed. is_among (ticket_of filed) rows ≡ true) cmd moment kept.next rows (each_among rows) in
    let are = are_mutated cmd moment kept rows well (taken_are cmd target filter kept well.by_ticket) in
    rw (mutated_rows cmd moment kept rows)
    (at_ticket (λ filed becomes. P (is_among (ticket_of filed) rows) filed becomes) kept.rows all ticket row
    well.by_ticket are.stand at (λ k d within. rw (among k d within) (here k d within))
    (λ apart. let none : is_among ticket rows ≡ false =
    rw (filed_mutating cmd moment kept.next rows) at (none_filed ticket all apart) in rw none other))

-- a MUTATE brings no row
pub mutate_none : (cmd : Cmd) (target : Target) (filter : Filter) (moment : ℕ) (kept : KeptState) (ticket : ℕ)
    → IsOrderly kept → row_at kept.rows ticket ≡ None
    → row_at (mutated cmd moment kept (taken cmd target filter kept)).rows ticket ≡ None
mutate_none cmd target filter moment kept ticket well at =
    let rows = taken cmd target filter kept in
    let are = are_mutated cmd moment kept rows well (taken_are cmd target filter kept well.by_ticket) in
    rw (mutated_rows cmd moment kept rows)
    (at_none kept.rows (mutating cmd moment kept.next rows) ticket well.by_ticket are.stand at)

-- ---- what becomes of the rows

-- a row that is taken out has its push ended, and one that is moved keeps its job
pub taken_stand : (cmd : Cmd) (moment n : ℕ) (rows : List (ℕ × Row))
    → All (λ one. PushStands (push_ended_taken cmd) (row_in one).job one.becomes) (mutating cmd moment n rows)
taken_stand Kill moment n rows =
    killing_all (λ one. PushStands (push_ended_taken Kill) (row_in one).job one.becomes) (λ filed. Unit {0}) moment rows
    (λ filed any. refl) (λ k d within. tt)
taken_stand Discard moment n rows =
    leaving_all (λ one. PushStands (push_ended_taken Discard) (row_in one).job one.becomes) (λ filed. Unit {0}) rows
    (λ filed any. refl) (λ k d within. tt)
taken_stand Requeue moment n rows =
    entering_all (λ one. PushStands (push_ended_taken Requeue) (row_in one).job one.becomes) (λ filed. Unit {0}) moment
    n (n + length rows) rows (omega arith) (λ rank filed below any. refl) (λ k d within. tt)
taken_stand Clear moment n rows =
    leaving_all (λ one. PushStands (push_ended_taken Clear) (row_in one).job one.becomes) (λ filed. Unit {0}) rows
    (λ filed any. refl) (λ k d within. tt)

-- no worker has a row that is taken
pub taken_idle : (cmd : Cmd) (target : Target) (filter : Filter) (moment n : ℕ) (kept : KeptState) → IsOrderly kept
    → All (λ one. is_working (row_in one).place ≡ false) (mutating cmd moment n (taken cmd target filter kept))
taken_idle cmd target filter moment n kept well =
    let rows = taken cmd target filter kept in
    let are = taken_are cmd target filter kept well.by_ticket in
    taken_all (λ filed. is_working (row_of filed).place ≡ false) cmd moment n rows
    (λ k d within. (are.each k d within).idle)
