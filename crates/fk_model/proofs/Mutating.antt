-- What becomes of the rows that a MUTATE takes: the rows and the numbers that it leads to.
use Rattle.std.proofs.Common.{◌≡◌, ◌≢◌, ap, refl, ℕ, ◌≤◌, ◌+◌, List, [], ◌∷◌, map, length, arith}
use Rattle.std.specs.Prelude.{All, None, Some, option_map, fold}
use Rattle.std.proofs.lemmas.List.Elements.{All-head, All-tail, All-map, All-weaker}
use Rattle.fk_model.specs.declared.row.Row.{Row}
use Rattle.fk_model.specs.declared.mutation.Cmd.{Cmd}
use Rattle.fk_model.specs.declared.mutation.Cmd.TheVariants.{Kill, Discard, Requeue, Clear}
use Rattle.fk_model.specs.declared.mutation.Target.TheVariants as target
use Rattle.fk_model.specs.Rows.{ticket_of, row_of, row_at}
use Rattle.fk_model.specs.State.{KeptState}
use Rattle.fk_model.specs.Orders.{moment_in}
use Rattle.fk_model.specs.Mutated.{killed_row, killed, mutated}
use Rattle.fk_model.proofs.Orderly.{IsOrderly}
use Rattle.fk_model.proofs.Outcomes.{Outcome, rows_with, new_rank}
use Rattle.fk_model.proofs.Settling.{IsLawful, AreRanked, AreOutcomes}
use Rattle.fk_model.proofs.BroughtUp.{leaving, entering, filed_in, filed_leaving, filed_entering, all_filed, pairs_filed, leaving_all, entering_all, ranked_entering, waiting_changes}
use Rattle.fk_model.proofs.UpToDate.{forgotten_is, enqueued_rows, enqueued_numbers}
use Rattle.fk_model.proofs.OfSets.{IsTaken, AreTaken}

-- ---- what becomes of the rows

-- what becomes of a row that is killed
abbrev pub killing_one : ℕ → ℕ × Row → Outcome
killing_one moment filed = record { filed = filed; becomes = Some (killed_row moment (row_of filed)) }

-- what becomes of the rows that are killed
abbrev pub killing : ℕ → List (ℕ × Row) → List Outcome
killing moment rows = map (killing_one moment) rows

-- what becomes of the rows that are taken, with the ranks from a number on
abbrev pub mutating : Cmd → ℕ → ℕ → List (ℕ × Row) → List Outcome
mutating Kill moment n rows = killing moment rows
mutating Discard moment n rows = leaving rows
mutating Requeue moment n rows = entering moment n rows
mutating Clear moment n rows = leaving rows

-- the next number behind them
abbrev pub number_behind : Cmd → ℕ → List (ℕ × Row) → ℕ
number_behind Kill n rows = n
number_behind Discard n rows = n
number_behind Requeue n rows = n + length rows
number_behind Clear n rows = n

pub number_grows : (cmd : Cmd) (n : ℕ) (rows : List (ℕ × Row)) → n ≤ number_behind cmd n rows
number_grows Requeue n rows = omega arith
number_grows other n rows = omega arith

filed_killing : (moment : ℕ) (rows : List (ℕ × Row)) → filed_in (killing moment rows) ≡ rows
filed_killing moment [] = refl
filed_killing moment (filed ∷ rows) = ap (λ xs. filed ∷ xs) (filed_killing moment rows)

pub filed_mutating : (cmd : Cmd) (moment n : ℕ) (rows : List (ℕ × Row)) → filed_in (mutating cmd moment n rows) ≡ rows
filed_mutating Kill moment n rows = filed_killing moment rows
filed_mutating Discard moment n rows = filed_leaving rows
filed_mutating Requeue moment n rows = filed_entering moment n rows
filed_mutating Clear moment n rows = filed_leaving rows

pub killing_all : (P : Outcome → Type 0) (Q : ℕ × Row → Type 0) (moment : ℕ) (rows : List (ℕ × Row))
    → ((filed : ℕ × Row) → Q filed → P (killing_one moment filed)) → All Q rows → All P (killing moment rows)
killing_all P Q moment rows follows each =
    All-map P (killing_one moment) rows (All-weaker Q (λ filed. P (killing_one moment filed)) follows rows each)

-- ---- what holds of it

gone_lawful : (cmd : Cmd) (rows : List (ℕ × Row)) (filed : ℕ × Row) → IsTaken cmd rows filed
    → IsLawful (record { filed = filed; becomes = None })
gone_lawful cmd rows filed is = record {
  apart = is.apart;
  of_job = tt;
  idle = tt;
  changes = λ same. absurd (cc);
  unranked = λ there. refl;
}

killed_changes : (moment : ℕ) (row : Row) → moment_in target.Dead row.place ≡ None
    → Some (killed_row moment row) ≢ Some row
killed_changes moment row alive same =
    let there = ap (option_map (λ (one : Row). moment_in target.Dead one.place)) same in absurd (cc)

lawful : (cmd : Cmd) (moment n : ℕ) (rows all : List (ℕ × Row)) → All (IsTaken cmd rows) all
    → All IsLawful (mutating cmd moment n all)
lawful Kill moment n rows all each =
    killing_all IsLawful (IsTaken Kill rows) moment all
    (λ filed is. record {
      apart = is.apart;
      of_job = (refl, refl);
      idle = refl;
      changes = killed_changes moment (row_of filed) is.alive;
      unranked = λ there. refl;
    }) each
lawful Discard moment n rows all each =
    leaving_all IsLawful (IsTaken Discard rows) all (gone_lawful Discard rows) each
lawful Requeue moment n rows all each =
    entering_all IsLawful (IsTaken Requeue rows) moment n (n + length all) all (omega arith)
    (λ rank filed below is. record {
      apart = is.apart;
      of_job = (refl, refl);
      idle = refl;
      changes = waiting_changes moment rank (row_of filed) is.apart;
      unranked = λ there. let idle = is.idle in absurd (cc);
    }) each
lawful Clear moment n rows all each =
    leaving_all IsLawful (IsTaken Clear rows) all (gone_lawful Clear rows) each

unranked : (n : ℕ) (all : List Outcome) → All (λ one. new_rank one.becomes ≡ None) all → AreRanked n all n
unranked n [] none = refl
unranked n (one ∷ all) none =
    rw (All-head (λ x. new_rank x.becomes ≡ None) one all none)
    (tt, unranked n all (All-tail (λ x. new_rank x.becomes ≡ None) one all none))

ranked_leaving : (n : ℕ) (rows : List (ℕ × Row)) → AreRanked n (leaving rows) n
ranked_leaving n rows =
    unranked n (leaving rows)
    (All-map (λ one. new_rank one.becomes ≡ None) (λ filed. record { filed = filed; becomes = None }) rows
    (λ k d within. refl))

ranked : (cmd : Cmd) (moment n : ℕ) (rows : List (ℕ × Row))
    → AreRanked n (mutating cmd moment n rows) (number_behind cmd n rows)
ranked Kill moment n rows =
    unranked n (killing moment rows)
    (All-map (λ one. new_rank one.becomes ≡ None) (killing_one moment) rows (λ k d within. refl))
ranked Discard moment n rows = ranked_leaving n rows
ranked Requeue moment n rows = ranked_entering moment n (n + length rows) rows refl
ranked Clear moment n rows = ranked_leaving n rows

pub are_mutated : (cmd : Cmd) (moment : ℕ) (kept : KeptState) (rows : List (ℕ × Row)) → IsOrderly kept
    → AreTaken cmd kept.rows rows
    → AreOutcomes kept.next (number_behind cmd kept.next rows) kept.rows (mutating cmd moment kept.next rows)
are_mutated cmd moment kept rows well taken =
    let all = mutating cmd moment kept.next rows in
    let filed = filed_mutating cmd moment kept.next rows in
    record {
      by_ticket = well.by_ticket;
      higher = well.above;
      stand = all_filed (λ one. row_at kept.rows (ticket_of one) ≡ Some (row_of one)) all
          (rw filed (λ k d within. (taken.each k d within).stands));
      once = pairs_filed all (rw filed taken.once);
      lawful = lawful cmd moment kept.next kept.rows rows taken.each;
      ranked = ranked cmd moment kept.next rows;
    }

-- ---- the rows and the numbers

killed_is : (moment : ℕ) (kept : KeptState) (rows : List (ℕ × Row))
    → fold (killed moment) kept rows ≡ record kept { rows = fold rows_with kept.rows (killing moment rows) }
killed_is moment kept [] = refl
killed_is moment kept (filed ∷ rows) = killed_is moment (killed moment kept filed) rows

-- the rows then
pub mutated_rows : (cmd : Cmd) (moment : ℕ) (kept : KeptState) (rows : List (ℕ × Row))
    → (mutated cmd moment kept rows).rows ≡ fold rows_with kept.rows (mutating cmd moment kept.next rows)
mutated_rows Kill moment kept rows = ap (λ (k : KeptState). k.rows) (killed_is moment kept rows)
mutated_rows Discard moment kept rows = ap (λ (k : KeptState). k.rows) (forgotten_is kept rows)
mutated_rows Requeue moment kept rows = enqueued_rows moment kept rows
mutated_rows Clear moment kept rows = ap (λ (k : KeptState). k.rows) (forgotten_is kept rows)

-- the numbers then: this is the next, and the counts stay
pub record HasCounts (kept after : KeptState) (n : ℕ) : Type 0 where
  pub next : after.next ≡ n
  pub processed : after.processed ≡ kept.processed
  pub failures : after.failures ≡ kept.failures

same_counts : (kept : KeptState) (rows : List (ℕ × Row)) → HasCounts kept (record kept { rows = rows }) kept.next
same_counts kept rows = record { next = refl; processed = refl; failures = refl }

pub mutated_counts : (cmd : Cmd) (moment : ℕ) (kept : KeptState) (rows : List (ℕ × Row))
    → HasCounts kept (mutated cmd moment kept rows) (number_behind cmd kept.next rows)
mutated_counts Kill moment kept rows =
    rw (killed_is moment kept rows) (same_counts kept (fold rows_with kept.rows (killing moment rows)))
mutated_counts Discard moment kept rows =
    rw (forgotten_is kept rows) (same_counts kept (fold rows_with kept.rows (leaving rows)))
mutated_counts Requeue moment kept rows =
    let numbers = enqueued_numbers moment (kept.next + length rows) kept rows refl in
    record { next = numbers.0; processed = numbers.1; failures = numbers.2 }
mutated_counts Clear moment kept rows =
    rw (forgotten_is kept rows) (same_counts kept (fold rows_with kept.rows (leaving rows)))
