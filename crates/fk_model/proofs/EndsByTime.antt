-- By time alone a push ends, or its job stays, and a reservation ends, or its row stays.
use Rattle.std.proofs.Common.{◌≡◌, refl, ℕ, zero, suc, ◌<◌, ◌≤◌, Bool, true, false, not, arith}
use Rattle.std.specs.Prelude.{Option, None, Some, IfSome, if◌then◌else◌, nat_lt, ℤ, pos, negsuc, option_map}
use Rattle.std.proofs.lemmas.Bool.Decides.{nat_tests}
use Rattle.std.proofs.lemmas.Option.{same_Some}
use Rattle.fk_job.specs.declared.failure.Failure.{Failure}
use Rattle.fk_job.specs.declared.job.Job.{Job}
use Rattle.fk_model.specs.declared.row.Row.{Row}
use Rattle.fk_model.specs.declared.place.Place.{Place}
use Rattle.fk_model.specs.declared.place.Place.TheVariants.{Queued, Scheduled, Retry, Dead, Working}
use Rattle.fk_model.specs.declared.fate.Fate.{Fate}
use Rattle.fk_model.specs.declared.fate.Fate.TheVariants as fate
use Rattle.fk_model.specs.declared.mutation.Target.TheVariants as target
use Rattle.fk_model.specs.Rows.{ticket_of, row_of, row_at}
use Rattle.fk_model.specs.State.{KeptState}
use Rattle.fk_model.specs.Orders.{rank_of, is_working, leased_until, moment_in}
use Rattle.fk_model.specs.Between.{IsWellKept}
use Rattle.fk_model.specs.Due.{leaves_at, waits_until}
use Rattle.fk_model.specs.Fate.{fate, next_try, end_of_dead}
use Rattle.fk_model.specs.Failing.{Reason, expiry, failures_before, fate_of, failure_of, failed_in, failed_row, place_of}
use Rattle.fk_model.specs.Bringing.{brought_up, waiting_row}
use Rattle.fk_model.specs.PushEnds.{PushEnd, PushStands, leaves_once_failed, push_ended_by_time}
use Rattle.fk_model.specs.PushEnds.{expired as expiring}
use Rattle.fk_model.specs.ReservationEnds.{ReservationEnd, ended_if, reservation_ended_by_time}
use Rattle.fk_model.proofs.ByTime.{by_time}

-- ---- moments

come_true : (moment at : ℕ) → at ≤ moment → not (nat_lt moment at) ≡ true
come_true moment at come = grind (arith, nat_tests, come)

later_false : (moment at : ℕ) → moment < at → not (nat_lt moment at) ≡ false
later_false moment at later = grind (arith, nat_tests, later)

-- ---- a push

fate_if : (row : Row) (failure : Failure) (again : Bool) (at until : ℕ)
    → PushStands None row.job
    (option_map (failed_in row failure) (place_of (if again then fate.Retry at else fate.Dead until)))
fate_if row failure true at until = refl
fate_if row failure false at until = refl

fate_stands : (end : PushEnd) (row : Row) (failure : Failure) (retry : ℤ) (count ticket word moment : ℕ)
    → PushStands (ended_if end (leaves_once_failed retry)) row.job
    (option_map (failed_in row failure) (place_of (fate retry count ticket word moment)))
fate_stands end row failure (pos zero) count ticket word moment = refl
fate_stands end row failure (pos (suc more)) count ticket word moment =
    fate_if row failure (nat_lt count (suc more)) (next_try count ticket word moment) (end_of_dead moment)
fate_stands end row failure (negsuc below) count ticket word moment = refl

-- a job that failed is gone exactly where it wasn't to be tried again, nor to be dead
pub failed_stands : (end : PushEnd) (reason : Reason) (moment word : ℕ) (filed : ℕ × Row)
    → PushStands (ended_if end (leaves_once_failed (row_of filed).job.retry)) (row_of filed).job
    (failed_row reason moment word filed)
failed_stands end reason moment word filed =
    fate_stands end (row_of filed) (failure_of reason moment word filed) (row_of filed).job.retry
    (failures_before (row_of filed).stamp) (ticket_of filed) word moment

dead_stands : (moment : ℕ) (retry : ℤ) (job : Job) (place : Place) (at : ℕ)
    → moment_in target.Dead place ≡ Some at → at ≤ moment
    → PushStands (push_ended_by_time moment retry place) job None
dead_stands moment retry job (Queued rank) at e come = absurd (cc)
dead_stands moment retry job (Scheduled when) at e come = absurd (cc)
dead_stands moment retry job (Retry when) at e come = absurd (cc)
dead_stands moment retry job (Dead until) at e come =
    let same : until ≡ at = same_Some until at e in
    rw (come_true moment until (omega (arith, same, come))) refl
dead_stands moment retry job (Working wid since until) at e come = absurd (cc)

lease_stands : (moment : ℕ) (retry : ℤ) (job : Job) (place : Place) (at : ℕ) (becomes : Option Row)
    → leased_until place ≡ Some at → at ≤ moment
    → PushStands (ended_if expiring (leaves_once_failed retry)) job becomes
    → PushStands (push_ended_by_time moment retry place) job becomes
lease_stands moment retry job (Queued rank) at becomes e come stands = absurd (cc)
lease_stands moment retry job (Scheduled when) at becomes e come stands = absurd (cc)
lease_stands moment retry job (Retry when) at becomes e come stands = absurd (cc)
lease_stands moment retry job (Dead until) at becomes e come stands = absurd (cc)
lease_stands moment retry job (Working wid since until) at becomes e come stands =
    let same : until ≡ at = same_Some until at e in
    rw (come_true moment until (omega (arith, same, come))) stands

wait_stands : (moment : ℕ) (retry : ℤ) (place : Place) (at : ℕ) → waits_until place ≡ Some at
    → push_ended_by_time moment retry place ≡ None
wait_stands moment retry (Queued rank) at e = refl
wait_stands moment retry (Scheduled when) at e = refl
wait_stands moment retry (Retry when) at e = refl
wait_stands moment retry (Dead until) at e = absurd (cc)
wait_stands moment retry (Working wid since until) at e = absurd (cc)

later_stands : (moment : ℕ) (retry : ℤ) (place : Place) → IfSome (leaves_at place) (λ at. moment < at)
    → push_ended_by_time moment retry place ≡ None
later_stands moment retry (Queued rank) later = refl
later_stands moment retry (Scheduled when) later = refl
later_stands moment retry (Retry when) later = refl
later_stands moment retry (Dead until) later = rw (later_false moment until later) refl
later_stands moment retry (Working wid since until) later = rw (later_false moment until later) refl

-- a push stands as its end by time alone says
abbrev pub PushByTime : ℕ → ℕ × Row → Option Row → Type 0
PushByTime moment filed becomes =
    PushStands (push_ended_by_time moment (row_of filed).job.retry (row_of filed).place) (row_of filed).job becomes

pub push_by_time : (kept : KeptState) (moment word ticket : ℕ) (row : Row) → IsWellKept kept
    → row_at kept.rows ticket ≡ Some row
    → PushStands (push_ended_by_time moment row.job.retry row.place) row.job
    (row_at (brought_up kept moment word).rows ticket)
push_by_time kept moment word ticket row well at =
    by_time (PushByTime moment) kept moment word well (record {
      dead = λ filed is. dead_stands moment (row_of filed).job.retry (row_of filed).job (row_of filed).place is.at
          is.has is.come;
      leased = λ filed is. lease_stands moment (row_of filed).job.retry (row_of filed).job (row_of filed).place
          is.at (failed_row expiry moment word filed) is.has is.come
          (failed_stands expiring expiry moment word filed);
      waits = λ rank filed is.
          rw (wait_stands moment (row_of filed).job.retry (row_of filed).place is.at is.has) refl;
      stays = λ filed later.
          rw (later_stands moment (row_of filed).job.retry (row_of filed).place later) refl;
    }) ticket row at

-- ---- a reservation

-- no worker has a row, and it waits in no queue
pub record IsAtRest (row : Row) : Type 0 where
  pub idle : is_working row.place ≡ false
  pub unranked : rank_of row.place ≡ None

-- the row is as it was while its reservation goes on, and once that has ended it rests, or has left
abbrev pub ReservationGoes : Option ReservationEnd → Row → Option Row → Type 0
ReservationGoes None row becomes = is_working row.place ≡ true → becomes ≡ Some row
ReservationGoes (Some end) row becomes = IfSome becomes IsAtRest

fate_rests : (row : Row) (failure : Failure) (becomes : Fate)
    → IfSome (option_map (failed_in row failure) (place_of becomes)) IsAtRest
fate_rests row failure fate.Drop = tt
fate_rests row failure (fate.Retry at) = record { idle = refl; unranked = refl }
fate_rests row failure (fate.Dead until) = record { idle = refl; unranked = refl }

-- no worker has a row whose job failed
pub failed_rests : (reason : Reason) (moment word : ℕ) (filed : ℕ × Row)
    → IfSome (failed_row reason moment word filed) IsAtRest
failed_rests reason moment word filed =
    fate_rests (row_of filed) (failure_of reason moment word filed) (fate_of moment word filed)

lease_rests : (moment : ℕ) (row : Row) (place : Place) (at : ℕ) (becomes : Option Row)
    → leased_until place ≡ Some at → at ≤ moment → IfSome becomes IsAtRest
    → ReservationGoes (reservation_ended_by_time moment place) row becomes
lease_rests moment row (Queued rank) at becomes e come rests = absurd (cc)
lease_rests moment row (Scheduled when) at becomes e come rests = absurd (cc)
lease_rests moment row (Retry when) at becomes e come rests = absurd (cc)
lease_rests moment row (Dead until) at becomes e come rests = absurd (cc)
lease_rests moment row (Working wid since until) at becomes e come rests =
    let same : until ≡ at = same_Some until at e in
    rw (come_true moment until (omega (arith, same, come))) rests

-- of a row that no worker has nothing ends
idle_goes : (moment : ℕ) (row : Row) (place : Place) (becomes : Option Row) → is_working place ≡ false
    → (is_working row.place ≡ true → becomes ≡ Some row)
    → ReservationGoes (reservation_ended_by_time moment place) row becomes
idle_goes moment row (Queued rank) becomes idle goes = goes
idle_goes moment row (Scheduled when) becomes idle goes = goes
idle_goes moment row (Retry when) becomes idle goes = goes
idle_goes moment row (Dead until) becomes idle goes = goes
idle_goes moment row (Working wid since until) becomes idle goes = absurd (cc)

dead_idle : (place : Place) (at : ℕ) → moment_in target.Dead place ≡ Some at → is_working place ≡ false
dead_idle (Queued rank) at e = absurd (cc)
dead_idle (Scheduled when) at e = absurd (cc)
dead_idle (Retry when) at e = absurd (cc)
dead_idle (Dead until) at e = refl
dead_idle (Working wid since until) at e = absurd (cc)

wait_idle : (place : Place) (at : ℕ) → waits_until place ≡ Some at → is_working place ≡ false
wait_idle (Queued rank) at e = absurd (cc)
wait_idle (Scheduled when) at e = refl
wait_idle (Retry when) at e = refl
wait_idle (Dead until) at e = absurd (cc)
wait_idle (Working wid since until) at e = absurd (cc)

later_goes : (moment : ℕ) (row : Row) (place : Place) → IfSome (leaves_at place) (λ at. moment < at)
    → ReservationGoes (reservation_ended_by_time moment place) row (Some row)
later_goes moment row (Queued rank) later = λ works. refl
later_goes moment row (Scheduled when) later = λ works. refl
later_goes moment row (Retry when) later = λ works. refl
later_goes moment row (Dead until) later = λ works. refl
later_goes moment row (Working wid since until) later = rw (later_false moment until later) (λ works. refl)

abbrev pub ReservationByTime : ℕ → ℕ × Row → Option Row → Type 0
ReservationByTime moment filed becomes =
    ReservationGoes (reservation_ended_by_time moment (row_of filed).place) (row_of filed) becomes

pub reservation_by_time : (kept : KeptState) (moment word ticket : ℕ) (row : Row) → IsWellKept kept
    → row_at kept.rows ticket ≡ Some row
    → ReservationGoes (reservation_ended_by_time moment row.place) row
    (row_at (brought_up kept moment word).rows ticket)
reservation_by_time kept moment word ticket row well at =
    by_time (ReservationByTime moment) kept moment word well (record {
      dead = λ filed is. let idle = dead_idle (row_of filed).place is.at is.has in
          idle_goes moment (row_of filed) (row_of filed).place None idle (λ works. absurd (cc));
      leased = λ filed is. lease_rests moment (row_of filed) (row_of filed).place is.at
          (failed_row expiry moment word filed) is.has is.come (failed_rests expiry moment word filed);
      waits = λ rank filed is. let idle = wait_idle (row_of filed).place is.at is.has in
          idle_goes moment (row_of filed) (row_of filed).place
          (Some (waiting_row moment rank (row_of filed))) idle (λ works. absurd (cc));
      stays = λ filed later. later_goes moment (row_of filed) (row_of filed).place later;
    }) ticket row at
