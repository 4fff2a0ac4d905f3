-- What the fields spell is what a move is spelled as, and a move has a spelling where its fields have one.
use Rattle.std.proofs.Common.{◌≡◌, ℕ, ◌<◌, ◌^◌, List, ◌∷◌, Option, None, Some, refl, ap, ◌∙◌, append_assoc, arith}
use Rattle.std.specs.Prelude.{IfSome}
use Rattle.std.proofs.lemmas.List.{append-nil}
use Rattle.fk_job.specs.declared.failure.FailureParts.{FailureParts}
use Rattle.fk_job.specs.declared.job.Job.{Job}
use Rattle.fk_job.specs.Fields.{least_reserve, most_reserve}
use Rattle.fk_job.specs.Spellings.{HasJobSpelling, IsMoment}
use Rattle.fk_model.specs.declared.place.Place.{Place}
use Rattle.fk_model.specs.declared.place.Place.TheVariants.{Queued, Scheduled, Retry, Dead, Working}
use Rattle.fk_model.specs.declared.row.Row.{Row}
use Rattle.fk_model.specs.declared.move_.Move.{Move}
use Rattle.fk_model.specs.declared.move_.Move.TheVariants.{Add, Put, Drop, DropAll, Totals}
use Rattle.fk_model.specs.Spellings.{HasFailureSpelling, HasPlaceSpelling, HasRestSpelling, HasRowSpelling, HasSpelling, IsWord}
use Rattle.fk_moves.specs.declared.rest.Rest.{Rest}
use Rattle.fk_moves.specs.Spelling.{word_bytes, option_bytes, job_bytes, failure_bytes, place_bytes, rest_bytes, row_bytes, move_bytes}
use Rattle.fk_moves.specs.Parts.{word, choice, between, moment, optional, failure, job, place, working, rest, rest_of_row, row, added, put, totals, one_move}
use Rattle.fk_moves.proofs.Guards.{between_has, has_between}
use Rattle.fk_moves.proofs.NamedLaws.{moment_has, has_moment, moment_spelled, word_spelled, flag_has, flag_spelled, optional_has, has_optional, optional_spelled, text_has, has_text, text_spelled, texts_has, has_texts, texts_spelled}
use Rattle.fk_moves.proofs.QueueLaws.{queue_has, has_queue, queue_spelled, retry_has, has_retry, retry_spelled}

if_some : {T : Type 0} {P Q : T → Type 0} (o : Option T) → ((x : T) → P x → Q x) → IfSome o P → IfSome o Q
if_some None f h = tt
if_some (Some x) f h = f x h

each_some : {T : Type 0} {P : T → Type 0} (o : Option T) → ((x : T) → P x) → IfSome o P
each_some None f = tt
each_some (Some x) f = f x

word_has : (n : ℕ) → IsWord n → word.Has n
unfolding word
word_has n le = omega arith

has_word : (n : ℕ) → word.Has n → IsWord n
unfolding word
has_word n lt = let small : n < 2 ^ 64 = lt in omega arith

moments_spelled : (o : Option ℕ) → (optional moment).spelled o ≡ option_bytes word_bytes o
moments_spelled o = optional_spelled moment word_bytes o (each_some o moment_spelled)

moments_has : (o : Option ℕ) → IfSome o IsMoment → (optional moment).Has o
moments_has o h = optional_has moment o (if_some o moment_has h)

has_moments : (o : Option ℕ) → (optional moment).Has o → IfSome o IsMoment
has_moments o h = if_some o has_moment (has_optional moment o h)

-- ---- failures

failure_has : (f : FailureParts) → HasFailureSpelling f → failure.Has f
unfolding failure
failure_has f h = (
  word_has _ h.count,
  (
    moment_has _ h.failed,
    (
      moments_has _ h.next,
      (
        text_has _ h.errtype,
        (text_has _ h.message, (texts_has _ h.backtrace, refl)),
      ),
    ),
  ),
)

has_failure : (f : FailureParts) → failure.Has f → HasFailureSpelling f
unfolding failure
has_failure f h = record {
  count = has_word _ h.0;
  failed = has_moment _ h.1.0;
  next = has_moments _ h.1.1.0;
  errtype = has_text _ h.1.1.1.0;
  message = has_text _ h.1.1.1.1.0;
  backtrace = has_texts _ h.1.1.1.1.1.0;
}

failure_spelled : (f : FailureParts) → failure.spelled f ≡ failure_bytes f
unfolding failure
failure_spelled f =
    rw (
      word_spelled f.count,
      moment_spelled f.failed,
      moments_spelled f.next,
      text_spelled f.errtype,
      text_spelled f.message,
      texts_spelled f.backtrace,
    ) (simp (append_assoc, append-nil))

-- ---- jobs

job_has : (j : Job) → HasJobSpelling j → job.Has j
unfolding job
job_has j h = (
  text_has _ h.jid,
  (
    text_has _ h.jobtype,
    (
      queue_has _ h.queue h.named,
      (
        retry_has _ h.retry h.retries,
        (between_has least_reserve most_reserve _ h.least h.most (omega arith), (moments_has _ h.due, (flag_has _, (text_has _ h.body, refl)))),
      ),
    ),
  ),
)

has_job : (j : Job) → job.Has j → HasJobSpelling j
unfolding job
has_job j h =
    let q = has_queue _ h.1.1.0 in
    let r = has_retry _ h.1.1.1.0 in
    let b = has_between least_reserve most_reserve _ (omega arith) (omega arith) h.1.1.1.1.0 in
    record {
      jid = has_text _ h.0;
      jobtype = has_text _ h.1.0;
      queue = q.0;
      named = q.1;
      retry = r.0;
      retries = r.1;
      least = b.0;
      most = b.1;
      due = has_moments _ h.1.1.1.1.1.0;
      body = has_text _ h.1.1.1.1.1.1.1.0;
    }

between_spelled : (least most n : ℕ) → (between least most).spelled n ≡ word_bytes n
unfolding between word word_bytes
between_spelled least most n = refl

job_spelled : (j : Job) → job.spelled j ≡ job_bytes j
unfolding job
job_spelled j =
    rw (
      text_spelled j.jid,
      text_spelled j.jobtype,
      queue_spelled j.queue,
      retry_spelled j.retry,
      between_spelled least_reserve most_reserve j.reserve_for,
      moments_spelled j.at,
      flag_spelled j.has_created,
      text_spelled j.body,
    ) (simp (append_assoc, append-nil))

-- ---- places

place_has : (p : Place) → HasPlaceSpelling p → place.Has p
unfolding place choice working
place_has (Queued rank) h = ((omega arith, refl), (word_has _ h, refl))
place_has (Scheduled at) h = ((omega arith, refl), (moment_has _ h, refl))
place_has (Retry at) h = ((omega arith, refl), (moment_has _ h, refl))
place_has (Dead until) h = ((omega arith, refl), (moment_has _ h, refl))
place_has (Working wid since until) h = ((omega arith, refl), (text_has _ h.0, (moment_has _ h.1, (moment_has _ h.2, refl))))

has_place : (p : Place) → place.Has p → HasPlaceSpelling p
unfolding place choice working
has_place (Queued rank) h = has_word _ h.1.0
has_place (Scheduled at) h = has_moment _ h.1.0
has_place (Retry at) h = has_moment _ h.1.0
has_place (Dead until) h = has_moment _ h.1.0
has_place (Working wid since until) h = (has_text _ h.1.0, has_moment _ h.1.1.0, has_moment _ h.1.1.1.0)

place_spelled : (p : Place) → place.spelled p ≡ place_bytes p
unfolding place choice working
place_spelled (Queued rank) = ap (λ (b : List ℕ). 1 ∷ b) (append-nil _ ∙ word_spelled rank)
place_spelled (Scheduled at) = ap (λ (b : List ℕ). 2 ∷ b) (append-nil _ ∙ moment_spelled at)
place_spelled (Retry at) = ap (λ (b : List ℕ). 3 ∷ b) (append-nil _ ∙ moment_spelled at)
place_spelled (Dead until) = ap (λ (b : List ℕ). 4 ∷ b) (append-nil _ ∙ moment_spelled until)
place_spelled (Working wid since until) =
    rw (text_spelled wid, moment_spelled since, moment_spelled until) (simp (append_assoc, append-nil))

-- ---- rows

rest_has : (r : Rest) → HasRestSpelling r.enqueued r.failure r.place → rest.Has r
unfolding rest
rest_has r h = (moments_has _ h.when, (optional_has failure _ (if_some r.failure failure_has h.failed), (place_has _ h.stands, refl)))

has_rest : (r : Rest) → rest.Has r → HasRestSpelling r.enqueued r.failure r.place
unfolding rest
has_rest r h = record {
  when = has_moments _ h.0;
  failed = if_some r.failure has_failure (has_optional failure _ h.1.0);
  stands = has_place _ h.1.1.0;
}

rest_spelled : (r : Rest) → rest.spelled r ≡ rest_bytes r.enqueued r.failure r.place
unfolding rest
rest_spelled r =
    rw (
      moments_spelled r.enqueued,
      optional_spelled failure failure_bytes r.failure (each_some r.failure failure_spelled),
      place_spelled r.place,
    ) (simp (append_assoc, append-nil))

row_has : (r : Row) → HasRowSpelling r → row.Has r
unfolding row
row_has r h = (job_has _ h.job, (moment_has _ h.created, (rest_has (rest_of_row r) h.rest, refl)))

has_row : (r : Row) → row.Has r → HasRowSpelling r
unfolding row
has_row r h = record { job = has_job _ h.0; created = has_moment _ h.1.0; rest = has_rest (rest_of_row r) h.1.1.0 }

row_spelled : (r : Row) → row.spelled r ≡ row_bytes r
unfolding row
row_spelled r =
    rw (job_spelled r.job, moment_spelled r.stamp.created, rest_spelled (rest_of_row r)) (simp (append_assoc, append-nil))

-- ---- moves

pub move_has : (m : Move) → HasSpelling m → one_move.Has m
unfolding one_move choice added put totals
move_has (Add ticket new) h = ((omega arith, refl), (word_has _ h.0, (row_has _ h.1, refl)))
move_has (Put ticket enqueued failed stands) h = ((omega arith, refl), (word_has _ h.0, (rest_has _ h.1, refl)))
move_has (Drop ticket) h = ((omega arith, refl), (word_has _ h, refl))
move_has DropAll h = ((omega arith, refl), refl)
move_has (Totals next processed failures) h = ((omega arith, refl), (word_has _ h.0, (word_has _ h.1, (word_has _ h.2, refl))))

pub has_move : (m : Move) → one_move.Has m → HasSpelling m
unfolding one_move choice added put totals
has_move (Add ticket new) h = (has_word _ h.1.0, has_row _ h.1.1.0)
has_move (Put ticket enqueued failed stands) h = (has_word _ h.1.0, has_rest _ h.1.1.0)
has_move (Drop ticket) h = has_word _ h.1.0
has_move DropAll h = tt
has_move (Totals next processed failures) h = (has_word _ h.1.0, has_word _ h.1.1.0, has_word _ h.1.1.1.0)

pub move_spelled : (m : Move) → one_move.spelled m ≡ move_bytes m
unfolding one_move choice added put totals
move_spelled (Add ticket new) = rw (word_spelled ticket, row_spelled new) (simp (append_assoc, append-nil))
move_spelled (Put ticket enqueued failed stands) =
    rw (word_spelled ticket, rest_spelled (record { enqueued = enqueued; failure = failed; place = stands })) (simp (append_assoc, append-nil))
move_spelled (Drop ticket) = rw (word_spelled ticket) (simp (append_assoc, append-nil))
move_spelled DropAll = refl
move_spelled (Totals next processed failures) =
    rw (word_spelled next, word_spelled processed, word_spelled failures) (simp (append_assoc, append-nil))
