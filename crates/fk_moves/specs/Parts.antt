-- The fields of a move, as they are read: each is named after what it spells.
use Rattle.std.specs.Prelude.{ℕ, Bool, ◌&&◌, ◌||◌, nat_le, ◌==◌, if◌then◌else◌, ℤ, List, [], ◌∷◌, length, replicate, Option, None, Some}
use Rattle.std.specs.Int.{w32, w64, cast_signed, cast_unsigned}
use Rattle.fk_time.specs.Moments.{greatest}
use Rattle.fk_job.specs.declared.failure.FailureParts.{FailureParts}
use Rattle.fk_job.specs.declared.job.Job.{Job}
use Rattle.fk_job.specs.Fields.{is_queue_byte, least_reserve, most_reserve}
use Rattle.fk_model.specs.declared.place.Place.{Place}
use Rattle.fk_model.specs.declared.place.Place.TheVariants.{Queued, Scheduled, Retry, Dead, Working}
use Rattle.fk_model.specs.declared.row.Row.{Row}
use Rattle.fk_model.specs.declared.move_.Move.{Move}
use Rattle.fk_model.specs.declared.move_.Move.TheVariants.{Add, Put, Drop, DropAll, Totals}
use Rattle.fk_moves.specs.declared.rest.Rest.{Rest}
use Rattle.fk_moves.specs.Spelling.{word_bytes}
use Rattle.fk_moves.specs.Fields.{Field, ◌>>=◌, nothing, part, byte_where, whole, so_many, times, within, first_of, behind, choose}

-- ---- numbers

-- any number of 64 bits, and of 32
unfoldable pub word : Field ℕ
word = whole w64

-- any number of 32 bits: how many bytes or texts there are
unfoldable pub count : Field ℕ
count = whole w32

-- a byte that tells between so many cases
unfoldable pub choice : ℕ → ℕ → Field ℕ
choice least most = byte_where (λ byte. nat_le least byte && nat_le byte most)

-- a number whose bytes are those of another field
abbrev pub guarded : Field (List ℕ) → Field ℕ → Field ℕ
guarded bytes number = record {
  spelled = number.spelled;
  Has = λ n. number.Has n × bytes.Has (number.spelled n);
  read = λ text. bytes.read text >>= λ _. number.read text;
}

-- a number of 64 bits from a least to a greatest
unfoldable pub between : ℕ → ℕ → Field ℕ
between least most = guarded (within 8 (word_bytes least) (word_bytes most)) word

-- how many there are, of which there is one at least
unfoldable pub some_count : Field ℕ
some_count = guarded (within 4 (0 ∷ 0 ∷ 0 ∷ 1 ∷ []) (replicate 4 255)) count

-- eight bytes of -1 or more: the first of them is below 128, or all are 255
abbrev pub behind_sign : ℕ → Field (List ℕ)
behind_sign first = behind first (within 7 (replicate 7 (if first == 255 then 255 else 0)) (replicate 7 255))

unfoldable pub retry_bytes : Field (List ℕ)
retry_bytes = part first_of (byte_where (λ byte. nat_le byte 127 || (byte == 255))) behind_sign

-- how often a job is tried again
unfoldable pub retry : Field ℤ
retry = part (λ number. Some (cast_unsigned w64 number)) (guarded retry_bytes word)
    (λ number. nothing (cast_signed w64 number))

-- a moment up to the greatest
abbrev pub moment : Field ℕ
moment = between 0 greatest

-- ---- what may be absent, and lists

-- whether something is so
abbrev pub bit_of : Bool → ℕ
bit_of flag = if flag then 1 else 0

-- whether something is so: the byte 0 or 1
unfoldable pub flag : Field Bool
flag = part (λ value. Some (bit_of value)) (choice 0 1) (λ bit. nothing (bit == 1))

-- whether a value is there
abbrev pub is_there : {T : Type 0} → Option T → ℕ
is_there None = 0
is_there (Some value) = 1

-- nothing behind the byte 0, and behind another a value
abbrev pub choose_absent : {T : Type 0} → Field T → ℕ → Field (Option T)
choose_absent field bit =
    choose (bit == 0) (nothing None) (part (λ value. value) field (λ value. nothing (Some value)))

-- what may be absent: the byte 0 or 1, and behind 1 the value
unfoldable pub optional : {T : Type 0} → Field T → Field (Option T)
optional field = part (λ value. Some (is_there value)) (choice 0 1) (choose_absent field)

-- a text behind the count of its bytes
unfoldable pub text : Field (List ℕ)
text = part (λ bytes. Some (length bytes)) count so_many

-- the name of a job's queue
unfoldable pub queue : Field (List ℕ)
queue = part (λ bytes. Some (length bytes)) some_count (times (byte_where is_queue_byte))

-- texts behind their count
unfoldable pub texts : Field (List (List ℕ))
texts = part (λ all. Some (length all)) count (times text)

-- ---- rows

-- a failure, in the order of its parts
unfoldable pub failure : Field FailureParts
failure =
    part (λ f. Some f.count) word (λ so_often.
    part (λ f. Some f.failed) moment (λ failed.
    part (λ f. Some f.next) (optional moment) (λ next.
    part (λ f. Some f.errtype) text (λ errtype.
    part (λ f. Some f.message) text (λ message.
    part (λ f. Some f.backtrace) texts (λ backtrace.
    nothing (record {
      count = so_often;
      failed = failed;
      next = next;
      errtype = errtype;
      message = message;
      backtrace = backtrace;
    })))))))

-- a job, in the order of its parts
unfoldable pub job : Field Job
job =
    part (λ j. Some j.jid) text (λ jid.
    part (λ j. Some j.jobtype) text (λ jobtype.
    part (λ j. Some j.queue) queue (λ named.
    part (λ j. Some j.retry) retry (λ tries.
    part (λ j. Some j.reserve_for) (between least_reserve most_reserve) (λ reserve_for.
    part (λ j. Some j.at) (optional moment) (λ at.
    part (λ j. Some j.has_created) flag (λ has_created.
    part (λ j. Some j.body) text (λ body.
    nothing (record {
      jid = jid;
      jobtype = jobtype;
      queue = named;
      retry = tries;
      reserve_for = reserve_for;
      at = at;
      has_created = has_created;
      body = body;
    })))))))))

-- which of the five places it is
abbrev pub place_tag : Place → ℕ
place_tag (Queued rank) = 1
place_tag (Scheduled at) = 2
place_tag (Retry at) = 3
place_tag (Dead until) = 4
place_tag (Working wid since until) = 5

-- the number that is said of a place in a queue or of a moment
abbrev pub said_of : Place → Option ℕ
said_of (Queued rank) = Some rank
said_of (Scheduled at) = Some at
said_of (Retry at) = Some at
said_of (Dead until) = Some until
said_of (Working wid since until) = None

-- the name and the moments of one that a worker has
abbrev pub wid_of : Place → Option (List ℕ)
wid_of (Working wid since until) = Some wid
wid_of other = None

-- from when on a worker has it
abbrev pub since_of : Place → Option ℕ
since_of (Working wid since until) = Some since
since_of other = None

-- until when a worker has it
abbrev pub until_of : Place → Option ℕ
until_of (Working wid since until) = Some until
until_of other = None

-- a place of a row that a worker has
unfoldable pub working : Field Place
working =
    part wid_of text (λ wid.
    part since_of moment (λ since.
    part until_of moment (λ until. nothing (Working wid since until))))

-- what is said of a place of this number
abbrev pub place_behind : ℕ → Field Place
place_behind tag =
    choose (tag == 1) (part said_of word (λ rank. nothing (Queued rank)))
    (choose (tag == 2) (part said_of moment (λ at. nothing (Scheduled at)))
    (choose (tag == 3) (part said_of moment (λ at. nothing (Retry at)))
    (choose (tag == 4) (part said_of moment (λ until. nothing (Dead until))) working)))

-- a place, behind its number
unfoldable pub place : Field Place
place = part (λ stands. Some (place_tag stands)) (choice 1 5) place_behind

-- what a move says of a row but its job and when it was pushed
unfoldable pub rest : Field Rest
rest =
    part (λ r. Some r.enqueued) (optional moment) (λ enqueued.
    part (λ r. Some r.failure) (optional failure) (λ failed.
    part (λ r. Some r.place) place (λ stands.
    nothing (record { enqueued = enqueued; failure = failed; place = stands }))))

-- what is said of a row behind its job
abbrev pub rest_of_row : Row → Rest
rest_of_row row =
    record { enqueued = row.stamp.enqueued; failure = row.stamp.failure; place = row.place }

-- a row
unfoldable pub row : Field Row
row =
    part (λ r. Some r.job) job (λ pushed.
    part (λ r. Some r.stamp.created) moment (λ created.
    part (λ r. Some (rest_of_row r)) rest (λ others.
    nothing (record {
      job = pushed;
      stamp = record { created = created; enqueued = others.enqueued; failure = others.failure };
      place = others.place;
    }))))

-- ---- moves

-- which of the five kinds it is
abbrev pub move_tag : Move → ℕ
move_tag (Add ticket new) = 1
move_tag (Put ticket enqueued failed stands) = 2
move_tag (Drop ticket) = 3
move_tag DropAll = 4
move_tag (Totals next processed failures) = 5

-- the ticket of a move of one row
abbrev pub ticket_of : Move → Option ℕ
ticket_of (Add ticket new) = Some ticket
ticket_of (Put ticket enqueued failed stands) = Some ticket
ticket_of (Drop ticket) = Some ticket
ticket_of DropAll = None
ticket_of (Totals next processed failures) = None

-- the row of a move that adds it
abbrev pub row_of : Move → Option Row
row_of (Add ticket new) = Some new
row_of other = None

-- what a move says of a row that gets a new place
abbrev pub rest_of_put : Move → Option Rest
rest_of_put (Put ticket enqueued failed stands) =
    Some (record { enqueued = enqueued; failure = failed; place = stands })
rest_of_put other = None

-- the next ticket or rank that a move tells
abbrev pub next_of : Move → Option ℕ
next_of (Totals next processed failures) = Some next
next_of other = None

-- how many jobs were done or failed, as a move tells
abbrev pub processed_of : Move → Option ℕ
processed_of (Totals next processed failures) = Some processed
processed_of other = None

-- how many jobs failed, as a move tells
abbrev pub failures_of : Move → Option ℕ
failures_of (Totals next processed failures) = Some failures
failures_of other = None

-- a new row
unfoldable pub added : Field Move
added = part ticket_of word (λ ticket. part row_of row (λ new. nothing (Add ticket new)))

-- a new place of a row
unfoldable pub put : Field Move
put = part ticket_of word (λ ticket. part rest_of_put rest (λ r.
    nothing (Put ticket r.enqueued r.failure r.place)))

-- the numbers of the server
unfoldable pub totals : Field Move
totals =
    part next_of word (λ next.
    part processed_of word (λ processed.
    part failures_of word (λ failures. nothing (Totals next processed failures))))

-- what is said of a move of this number
abbrev pub move_behind : ℕ → Field Move
move_behind tag =
    choose (tag == 1) added
    (choose (tag == 2) put
    (choose (tag == 3) (part ticket_of word (λ ticket. nothing (Drop ticket)))
    (choose (tag == 4) (nothing DropAll) totals)))

-- a move, behind its number
unfoldable pub one_move : Field Move
one_move = part (λ step. Some (move_tag step)) (choice 1 5) move_behind
