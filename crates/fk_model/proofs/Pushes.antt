-- The moves of jobs that are pushed: they fit, and they lead to the state with each of the jobs.
use Rattle.std.proofs.Common.{◌≡◌, ap, refl, ℕ, suc, ◌<◌, ◌≤◌, ◌+◌, List, [], ◌∷◌, Bool, true, false, length, arith}
use Rattle.std.specs.Prelude.{All, if◌then◌else◌, Option, None, Some, IfSome, unwrap_or}
use Rattle.std.proofs.lemmas.Option.{IfSome_then}
use Rattle.std.proofs.lemmas.List.Elements.{All-nil, All-cons, All-head, All-tail, All-weaker}
use Rattle.fk_time.specs.Moments.{greatest}
use Rattle.fk_job.specs.declared.job.Job.{Job}
use Rattle.fk_model.specs.declared.row.Row.{Row}
use Rattle.fk_model.specs.declared.place.Place.TheVariants.{Queued, Scheduled}
use Rattle.fk_model.specs.declared.move_.Move.TheVariants.{Add}
use Rattle.fk_model.specs.Limits.{greatest_next}
use Rattle.fk_model.specs.Rows.{ticket_of, row_of}
use Rattle.fk_model.specs.State.{KeptState}
use Rattle.fk_model.specs.Orders.{rank_of}
use Rattle.fk_job.specs.Spellings.{HasJobSpelling, IsMoment}
use Rattle.fk_model.specs.Spellings.{IsWord, HasRowSpelling}
use Rattle.fk_model.specs.Between.{IsAboveAll}
use Rattle.fk_model.specs.Changes.{after_move, after_moves, ComesLast, Fits, FitInTurn, IsTotals}
use Rattle.fk_model.specs.Requests.{due_at, is_later, pushed_row, pushed, all_pushed}
use Rattle.fk_model.specs.Turns.{moves_of_push}
use Rattle.fk_model.proofs.Tickets.{all_with, none_above}
use Rattle.fk_model.proofs.Queues.{ranks_hold}
use Rattle.fk_model.proofs.Leading.{AreRowsOf, HasNumbers}

-- ---- the row of a job

abbrev scheduled_row : ℕ → Job → Row
scheduled_row moment job = record {
  job = job;
  stamp = record { created = moment; enqueued = None; failure = None };
  place = Scheduled (due_at job);
}

abbrev queued_row : ℕ → ℕ → Job → Row
queued_row moment ticket job = record {
  job = job;
  stamp = record { created = moment; enqueued = Some moment; failure = None };
  place = Queued ticket;
}

-- what holds of either row holds of the one that is pushed
of_either : (P : Row → Type 0) (test : Bool) (one other : Row) → P one → P other
    → P (if test then one else other)
of_either P true one other first second = first
of_either P false one other first second = second

of_pushed : (P : Row → Type 0) (moment ticket : ℕ) (job : Job) → P (scheduled_row moment job)
    → P (queued_row moment ticket job) → P (pushed_row moment ticket job)
of_pushed P moment ticket job first second =
    of_either P (is_later moment job) (scheduled_row moment job) (queued_row moment ticket job) first second

due_within : (at : Option ℕ) → IfSome at IsMoment → IsMoment (unwrap_or at 0)
due_within None within = omega arith
due_within (Some at) within = within

pushed_spelled : (moment ticket : ℕ) (job : Job) → moment ≤ greatest → IsWord ticket
    → HasJobSpelling job → HasRowSpelling (pushed_row moment ticket job)
pushed_spelled moment ticket job within word spelled =
    of_pushed HasRowSpelling moment ticket job
    (record {
      job = spelled;
      created = within;
      rest = record { when = tt; failed = tt; stands = due_within job.at spelled.due };
    })
    (record {
      job = spelled;
      created = within;
      rest = record { when = within; failed = tt; stands = word };
    })

-- ---- one job

-- a new row under a ticket above all fits
pub pushed_fits : (kept : KeptState) (moment ticket : ℕ) (job : Job) → moment ≤ greatest → IsWord ticket
    → HasJobSpelling job → IsAboveAll ticket kept.rows
    → Fits kept (Add ticket (pushed_row moment ticket job))
pushed_fits kept moment ticket job within word spelled above = record {
  spelled = (word, pushed_spelled moment ticket job within word spelled);
  allowed = (
    none_above kept.rows ticket above.tickets,
    of_pushed (λ row. ComesLast kept row.job.queue row.place) moment ticket job tt
        (ranks_hold (λ rank. rank < ticket) kept.rows job.queue above.ranks),
  );
}

-- behind it, the number after the ticket is above all
pub pushed_above : (kept : KeptState) (moment ticket : ℕ) (job : Job) → IsAboveAll ticket kept.rows
    → IsAboveAll (ticket + 1) (after_move kept (Add ticket (pushed_row moment ticket job))).rows
unfolding after_move
pushed_above kept moment ticket job above = record {
  tickets = all_with (λ filed. ticket_of filed < ticket + 1) kept.rows ticket
      (pushed_row moment ticket job)
      (All-weaker (λ filed. ticket_of filed < ticket) (λ filed. ticket_of filed < ticket + 1)
      (λ filed lower. omega arith) kept.rows above.tickets) (omega arith);
  ranks = all_with (λ filed. IfSome (rank_of (row_of filed).place) (λ rank. rank < ticket + 1))
      kept.rows ticket (pushed_row moment ticket job)
      (All-weaker (λ filed. IfSome (rank_of (row_of filed).place) (λ rank. rank < ticket))
      (λ filed. IfSome (rank_of (row_of filed).place) (λ rank. rank < ticket + 1))
      (λ filed lower. IfSome_then (rank_of (row_of filed).place) lower (λ rank less. omega arith))
      kept.rows above.ranks)
      (of_pushed (λ row. IfSome (rank_of row.place) (λ rank. rank < ticket + 1)) moment ticket job tt
      (omega arith));
}

-- ---- jobs one behind the other

adds_fit : (moment : ℕ) (jobs : List Job) (kept : KeptState) (n : ℕ) → moment ≤ greatest
    → All HasJobSpelling jobs → n + length jobs ≤ greatest_next → IsAboveAll n kept.rows
    → FitInTurn kept (moves_of_push moment n jobs)
unfolding FitInTurn
adds_fit moment [] kept n within spelled room above = tt
adds_fit moment (job ∷ jobs) kept n within spelled room above = (
  pushed_fits kept moment n job within (omega (arith, room)) (All-head HasJobSpelling job jobs spelled)
      above,
  adds_fit moment jobs (after_move kept (Add n (pushed_row moment n job))) (n + 1) within
      (All-tail HasJobSpelling job jobs spelled) (omega (arith, room)) (pushed_above kept moment n job above),
)

adds_above : (moment : ℕ) (jobs : List Job) (kept : KeptState) (n m : ℕ) → m ≡ n + length jobs
    → IsAboveAll n kept.rows → IsAboveAll m (after_moves kept (moves_of_push moment n jobs)).rows
adds_above moment [] kept n m e above = let same : m ≡ n = omega arith in rw same above
adds_above moment (job ∷ jobs) kept n m e above =
    adds_above moment jobs (after_move kept (Add n (pushed_row moment n job))) (n + 1) m (omega arith)
    (pushed_above kept moment n job above)

-- the numbers stay as they are until they are told
adds_numbers : (moment : ℕ) (jobs : List Job) (kept : KeptState) (n : ℕ)
    → ((after_moves kept (moves_of_push moment n jobs)).next ≡ kept.next)
    × ((after_moves kept (moves_of_push moment n jobs)).processed ≡ kept.processed)
    × ((after_moves kept (moves_of_push moment n jobs)).failures ≡ kept.failures)
unfolding after_move
adds_numbers moment [] kept n = (refl, refl, refl)
adds_numbers moment (job ∷ jobs) kept n =
    adds_numbers moment jobs (after_move kept (Add n (pushed_row moment n job))) (n + 1)

pushed_all : (moment : ℕ) (jobs : List Job) (kept : KeptState) (n m : ℕ) → m ≡ n + length jobs
    → all_pushed moment (record kept { next = n }) jobs
    ≡ record (after_moves kept (moves_of_push moment n jobs)) { next = m }
unfolding after_move
pushed_all moment [] kept n m e =
    let same : n ≡ m = omega arith in ap (λ (k : ℕ). record kept { next = k }) same
pushed_all moment (job ∷ jobs) kept n m e =
    pushed_all moment jobs (after_move kept (Add n (pushed_row moment n job))) (n + 1) m (omega arith)

-- ---- what is known of them

none_then : (moment n : ℕ) (kept : KeptState) (jobs : List Job) → moves_of_push moment n jobs ≡ []
    → all_pushed moment kept jobs ≡ kept
none_then moment n kept [] none = refl
none_then moment n kept (job ∷ jobs) none = absurd (cc)

adds_plain : (moment n : ℕ) (jobs : List Job) → All (λ move. ¬ IsTotals move) (moves_of_push moment n jobs)
adds_plain moment n [] = All-nil (λ move. ¬ IsTotals move)
adds_plain moment n (job ∷ jobs) =
    All-cons (λ move. ¬ IsTotals move) (Add n (pushed_row moment n job))
    (moves_of_push moment (n + 1) jobs) (λ total. total) (adds_plain moment (n + 1) jobs)

pushes_stay : (moment : ℕ) (jobs : List Job) (kept : KeptState) → all_pushed moment kept jobs ≡ kept
    → moves_of_push moment kept.next jobs ≡ []
pushes_stay moment [] kept same = refl
pushes_stay moment (job ∷ jobs) kept same =
    let grown : (all_pushed moment kept (job ∷ jobs)).next ≡ kept.next + suc (length jobs) =
    ap (λ (k : KeptState). k.next)
    (pushed_all moment (job ∷ jobs) kept kept.next (kept.next + suc (length jobs)) refl) in
    let kept_there : (all_pushed moment kept (job ∷ jobs)).next ≡ kept.next =
    ap (λ (k : KeptState). k.next) same in
    absurd (omega (arith, grown, kept_there))

pub pushes_are_rows : (moment : ℕ) (jobs : List Job) (kept : KeptState)
    → AreRowsOf kept (moves_of_push moment kept.next jobs) (all_pushed moment kept jobs)
pushes_are_rows moment jobs kept = record {
  rows = ap (λ (k : KeptState). k.rows) (pushed_all moment jobs kept kept.next (kept.next + length jobs) refl);
  none = none_then moment kept.next kept jobs;
  plain = adds_plain moment kept.next jobs;
  stays = pushes_stay moment jobs kept;
}

pub pushes_have_numbers : (moment : ℕ) (jobs : List Job) (kept : KeptState) → moment ≤ greatest
    → All HasJobSpelling jobs → (all_pushed moment kept jobs).next ≤ greatest_next
    → IsAboveAll kept.next kept.rows → IsWord kept.processed → IsWord kept.failures
    → HasNumbers kept (moves_of_push moment kept.next jobs) (all_pushed moment kept jobs)
pushes_have_numbers moment jobs kept within spelled room above processed failures =
    let whole = pushed_all moment jobs kept kept.next (kept.next + length jobs) refl in
    let grown : (all_pushed moment kept jobs).next ≡ kept.next + length jobs =
    ap (λ (k : KeptState). k.next) whole in
    let numbers = adds_numbers moment jobs kept kept.next in
    let fits : kept.next + length jobs ≤ greatest_next = rw grown at room in
    record {
      fit = adds_fit moment jobs kept kept.next within spelled fits above;
      number = record {
        within = room;
        risen = rw (numbers.0, grown) (omega arith);
        above = adds_above moment jobs kept kept.next (all_pushed moment kept jobs).next grown above;
      };
      processed = rw (ap (λ (k : KeptState). k.processed) whole, numbers.1) processed;
      failures = rw (ap (λ (k : KeptState). k.failures) whole, numbers.2) failures;
    }

-- jobs that are pushed don't lower the next number
pub pushes_grow : (moment : ℕ) (jobs : List Job) (kept : KeptState)
    → kept.next ≤ (all_pushed moment kept jobs).next
pushes_grow moment [] kept = omega arith
pushes_grow moment (job ∷ jobs) kept =
    let rest = pushes_grow moment jobs (pushed moment kept job) in omega (arith, rest)
