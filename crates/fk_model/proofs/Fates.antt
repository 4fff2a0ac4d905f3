-- What becomes of a job that failed, at a moment that a clock tells: its row stands where it is until later, and can
-- be written.
use Rattle.std.proofs.Common.{◌≡◌, ◌≢◌, ap, refl, ℕ, zero, suc, ◌*◌, ◌<◌, ◌≤◌, min, List, Bool, true, false, arith}
use Rattle.std.specs.Prelude.{All, if◌then◌else◌, nat_lt, ℤ, pos, negsuc, Option, None, Some, IfSome, IsTrue, option_map, slice_index_or}
use Rattle.std.specs.List.{list_all}
use Rattle.std.specs.Option.{option_map_or}
use Rattle.std.proofs.lemmas.Bool.Decides.{nat_tests}
use Rattle.std.proofs.lemmas.List.Elements.{All-nil}
use Rattle.std.proofs.lemmas.List.Sums.{AllPass-from_list_all}
use Rattle.fk_time.specs.Moments.{greatest}
use Rattle.fk_job.specs.declared.failure.Failure.{Failure}
use Rattle.fk_job.specs.Spellings.{IsMoment, IsText}
use Rattle.fk_model.specs.declared.row.Row.{Row}
use Rattle.fk_model.specs.declared.move_.Move.TheVariants.{Add}
use Rattle.fk_model.specs.declared.fate.Fate.{Fate}
use Rattle.fk_model.specs.declared.fate.Fate.TheVariants as fate
use Rattle.fk_model.specs.Limits.{raised, later_by, second_length}
use Rattle.fk_model.specs.Rows.{ticket_of, row_of}
use Rattle.fk_model.specs.Orders.{is_queued, is_working}
use Rattle.fk_model.specs.Spellings.{IsWord, AreTexts, HasFailureSpelling, HasSpelling}
use Rattle.fk_model.specs.Fate.{chance, dead_for, delay, end_of_dead, fate, most_counted, next_try}
use Rattle.fk_model.specs.Failing.{Reason, expiry, failures_before, fate_of, tried_at, place_of, failure_of, failed_in, failed_row}
use Rattle.fk_model.proofs.Outcomes.{new_rank}
use Rattle.fk_model.proofs.Settling.{IsLawful, IsSpelled, StaysOn}

-- ---- a fate comes later

abbrev pub IsLaterMoment : ℕ → ℕ → Type 0
IsLaterMoment moment at = (moment < at) × (at ≤ greatest)

abbrev pub IsLaterFate : ℕ → Fate → Type 0
IsLaterFate moment fate.Drop = Unit {0}
IsLaterFate moment (fate.Retry at) = IsLaterMoment moment at
IsLaterFate moment (fate.Dead until) = IsLaterMoment moment until

later_capped : (milliseconds moment : ℕ) → 0 < milliseconds → moment < greatest
    → IsLaterMoment moment (later_by milliseconds moment)
later_capped milliseconds moment some told = (omega (arith, some, told), omega arith)

delay_some : (count part : ℕ) → 0 < second_length * delay count part
delay_some count part = omega arith

next_later : (count ticket word moment : ℕ) → moment < greatest
    → IsLaterMoment moment (next_try count ticket word moment)
next_later count ticket word moment told =
    later_capped (second_length * delay (min count most_counted) (chance word ticket)) moment
    (delay_some (min count most_counted) (chance word ticket)) told

later_if : (moment at until : ℕ) (again : Bool) → IsLaterMoment moment at → IsLaterMoment moment until
    → IsLaterFate moment (if again then fate.Retry at else fate.Dead until)
later_if moment at until true first second = first
later_if moment at until false first second = second

pub fate_later : (retry : ℤ) (count ticket word moment : ℕ) → moment < greatest
    → IsLaterFate moment (fate retry count ticket word moment)
fate_later (pos zero) count ticket word moment told = tt
fate_later (pos (suc times)) count ticket word moment told =
    later_if moment (next_try count ticket word moment) (end_of_dead moment) (nat_lt count (suc times))
    (next_later count ticket word moment told) (later_capped dead_for moment (omega arith) told)
fate_later (negsuc below) count ticket word moment told = later_capped dead_for moment (omega arith) told

-- ---- a failure can be written

-- the words of a reason can be
pub record IsReason (reason : Reason) : Type 0 where
  pub errtype : IsText reason.errtype
  pub message : IsText reason.message
  pub backtrace : AreTexts reason.backtrace

all_bytes : (text : List ℕ) → list_all (λ byte. nat_lt byte 256) text ≡ true → All (λ byte. byte < 256) text
all_bytes text e k d within =
    let small : nat_lt (slice_index_or text k d) 256 ≡ true =
    AllPass-from_list_all (λ byte. nat_lt byte 256) text e k d within in
    grind (arith, nat_tests, small)

pub expiry_is : IsReason expiry
expiry_is = record {
  errtype = record { bytes = all_bytes expiry.errtype refl; short = omega arith };
  message = record { bytes = all_bytes expiry.message refl; short = omega arith };
  backtrace = record { each = All-nil IsText; short = omega arith };
}

before_word : (failure : Option Failure) → IsWord (option_map_or (λ (one : Failure). raised one.count) failure 0)
before_word None = omega arith
before_word (Some failure) = omega arith

tried_within : (moment : ℕ) (one : Fate) → IsLaterFate moment one → IfSome (tried_at one) IsMoment
tried_within moment fate.Drop later = tt
tried_within moment (fate.Retry at) later = later.1
tried_within moment (fate.Dead until) later = tt

failure_spelled : (reason : Reason) (moment word : ℕ) (filed : ℕ × Row) → moment < greatest → IsReason reason
    → HasFailureSpelling (failure_of reason moment word filed)
failure_spelled reason moment word filed told texts = record {
  count = before_word (row_of filed).stamp.failure;
  failed = omega (arith, told);
  next = tried_within moment (fate_of moment word filed)
      (fate_later (row_of filed).job.retry (failures_before (row_of filed).stamp) (ticket_of filed) word moment told);
  errtype = texts.errtype;
  message = texts.message;
  backtrace = texts.backtrace;
}

-- ---- the row then

-- the row of a fate, with a failure
abbrev row_by : ℕ × Row → Failure → Fate → Option Row
row_by filed failure one = option_map (failed_in (row_of filed) failure) (place_of one)

pub fate_unranked : (filed : ℕ × Row) (failure : Failure) (one : Fate) → new_rank (row_by filed failure one) ≡ None
fate_unranked filed failure fate.Drop = refl
fate_unranked filed failure (fate.Retry at) = refl
fate_unranked filed failure (fate.Dead until) = refl

fate_changes : (filed : ℕ × Row) (failure : Failure) (one : Fate) → is_working (row_of filed).place ≡ true
    → row_by filed failure one ≢ Some (row_of filed)
fate_changes filed failure fate.Drop works = λ same. absurd (cc)
fate_changes filed failure (fate.Retry at) works = λ same.
    let place : Some false ≡ Some (is_working (row_of filed).place) =
    ap (option_map (λ (row : Row). is_working row.place)) same in absurd (cc)
fate_changes filed failure (fate.Dead until) works = λ same.
    let place : Some false ≡ Some (is_working (row_of filed).place) =
    ap (option_map (λ (row : Row). is_working row.place)) same in absurd (cc)

lawful_by : (filed : ℕ × Row) (failure : Failure) (one : Fate) → is_working (row_of filed).place ≡ true
    → ¬ IsTrue (is_queued (row_of filed).place)
    → IsLawful (record { filed = filed; becomes = row_by filed failure one })
lawful_by filed failure fate.Drop works apart =
    record {
      apart = apart;
      of_job = tt;
      idle = tt;
      changes = fate_changes filed failure fate.Drop works;
      unranked = λ there. refl;
    }
lawful_by filed failure (fate.Retry at) works apart = record {
  apart = apart;
  of_job = (refl, refl);
  idle = refl;
  changes = fate_changes filed failure (fate.Retry at) works;
  unranked = λ there. refl;
}
lawful_by filed failure (fate.Dead until) works apart = record {
  apart = apart;
  of_job = (refl, refl);
  idle = refl;
  changes = fate_changes filed failure (fate.Dead until) works;
  unranked = λ there. refl;
}

pub failed_lawful : (reason : Reason) (moment word : ℕ) (filed : ℕ × Row) → is_working (row_of filed).place ≡ true
    → ¬ IsTrue (is_queued (row_of filed).place)
    → IsLawful (record { filed = filed; becomes = failed_row reason moment word filed })
failed_lawful reason moment word filed works apart =
    lawful_by filed (failure_of reason moment word filed) (fate_of moment word filed) works apart

spelled_by : (moment : ℕ) (filed : ℕ × Row) (failure : Failure) (one : Fate) → IsLaterFate moment one
    → HasSpelling (Add (ticket_of filed) (row_of filed)) → HasFailureSpelling failure
    → IsSpelled (record { filed = filed; becomes = row_by filed failure one })
spelled_by moment filed failure fate.Drop later spelled failed = spelled.0
spelled_by moment filed failure (fate.Retry at) later spelled failed =
    (spelled.0, record { when = spelled.1.rest.when; failed = failed; stands = later.1 })
spelled_by moment filed failure (fate.Dead until) later spelled failed =
    (spelled.0, record { when = spelled.1.rest.when; failed = failed; stands = later.1 })

pub failed_spelled : (reason : Reason) (moment word : ℕ) (filed : ℕ × Row) → moment < greatest → IsReason reason
    → HasSpelling (Add (ticket_of filed) (row_of filed))
    → IsSpelled (record { filed = filed; becomes = failed_row reason moment word filed })
failed_spelled reason moment word filed told texts spelled =
    spelled_by moment filed (failure_of reason moment word filed) (fate_of moment word filed)
    (fate_later (row_of filed).job.retry (failures_before (row_of filed).stamp) (ticket_of filed) word moment told)
    spelled (failure_spelled reason moment word filed told texts)

on_by : (moment : ℕ) (filed : ℕ × Row) (failure : Failure) (one : Fate) → IsLaterFate moment one
    → StaysOn moment (record { filed = filed; becomes = row_by filed failure one })
on_by moment filed failure fate.Drop later = tt
on_by moment filed failure (fate.Retry at) later = later.0
on_by moment filed failure (fate.Dead until) later = later.0

pub failed_on : (reason : Reason) (moment word : ℕ) (filed : ℕ × Row) → moment < greatest
    → StaysOn moment (record { filed = filed; becomes = failed_row reason moment word filed })
failed_on reason moment word filed told =
    on_by moment filed (failure_of reason moment word filed) (fate_of moment word filed)
    (fate_later (row_of filed).job.retry (failures_before (row_of filed).stamp) (ticket_of filed) word moment told)
