-- How moves are spelled in a file: whole numbers with their highest byte first, and a text behind its
-- length.
use Rattle.std.specs.Prelude.{ℕ, ℤ, Bool, true, false, List, [], ◌∷◌, ◌++◌, length, Option, None, Some}
use Rattle.std.specs.Int.{w32, w64, to_be_bytes, cast_unsigned}
use Rattle.std.specs.List.{flat_map}
use Rattle.fk_job.specs.declared.failure.Failure.{Failure}
use Rattle.fk_job.specs.declared.job.Job.{Job}
use Rattle.fk_model.specs.declared.place.Place.{Place}
use Rattle.fk_model.specs.declared.place.Place.TheVariants.{Queued, Scheduled, Retry, Dead, Working}
use Rattle.fk_model.specs.declared.row.Row.{Row}
use Rattle.fk_model.specs.declared.move_.Move.{Move}
use Rattle.fk_model.specs.declared.move_.Move.TheVariants.{Add, Put, Drop, DropAll, Totals}

-- a number of 64 bits
unfoldable pub word_bytes : ℕ → List ℕ
word_bytes number = to_be_bytes w64 number

-- a number of 64 bits that has a sign: a negative one is 2^64 less than its bytes
unfoldable pub signed_bytes : ℤ → List ℕ
signed_bytes number = to_be_bytes w64 (cast_unsigned w64 number)

-- how many bytes or texts come next, in 32 bits
unfoldable pub count_bytes : ℕ → List ℕ
count_bytes count = to_be_bytes w32 count

-- a text: the number of its bytes, and these
abbrev pub text_bytes : List ℕ → List ℕ
text_bytes text = count_bytes (length text) ++ text

-- texts: their number, and these
abbrev pub texts_bytes : List (List ℕ) → List ℕ
texts_bytes texts = count_bytes (length texts) ++ flat_map text_bytes texts

-- a value that may be absent: 0 where it is, and behind 1 where it isn't
abbrev pub option_bytes : {T : Type 0} → (T → List ℕ) → Option T → List ℕ
option_bytes spelled None = 0 ∷ []
option_bytes spelled (Some value) = 1 ∷ spelled value

-- whether something is so: 1 or 0
abbrev pub flag_bytes : Bool → List ℕ
flag_bytes false = 0 ∷ []
flag_bytes true = 1 ∷ []

-- a job
abbrev pub job_bytes : Job → List ℕ
job_bytes job =
    text_bytes job.jid ++ text_bytes job.jobtype ++ text_bytes job.queue
    ++ signed_bytes job.retry ++ word_bytes job.reserve_for ++ option_bytes word_bytes job.at
    ++ flag_bytes job.has_created ++ text_bytes job.body

-- what stands of a job between its texts
abbrev pub number_bytes : Job → List ℕ
number_bytes job =
    signed_bytes job.retry ++ word_bytes job.reserve_for ++ option_bytes word_bytes job.at
    ++ flag_bytes job.has_created

-- a failure
abbrev pub failure_bytes : Failure → List ℕ
failure_bytes failure =
    word_bytes failure.count ++ word_bytes failure.failed ++ option_bytes word_bytes failure.next
    ++ text_bytes failure.errtype ++ text_bytes failure.message ++ texts_bytes failure.backtrace

-- where a row stands: which of the five places, and what is said of it
abbrev pub place_bytes : Place → List ℕ
place_bytes (Queued rank) = 1 ∷ word_bytes rank
place_bytes (Scheduled at) = 2 ∷ word_bytes at
place_bytes (Retry at) = 3 ∷ word_bytes at
place_bytes (Dead until) = 4 ∷ word_bytes until
place_bytes (Working wid since until) =
    5 ∷ text_bytes wid ++ word_bytes since ++ word_bytes until

-- what a move says of a row but its job and when it was pushed
abbrev pub rest_bytes : Option ℕ → Option Failure → Place → List ℕ
rest_bytes enqueued failure place =
    option_bytes word_bytes enqueued ++ option_bytes failure_bytes failure ++ place_bytes place

-- a row
abbrev pub row_bytes : Row → List ℕ
row_bytes row =
    job_bytes row.job ++ word_bytes row.stamp.created
    ++ rest_bytes row.stamp.enqueued row.stamp.failure row.place

-- a move: which of the five kinds, and what is said of it
abbrev pub move_bytes : Move → List ℕ
move_bytes (Add ticket row) = 1 ∷ word_bytes ticket ++ row_bytes row
move_bytes (Put ticket enqueued failure place) =
    2 ∷ word_bytes ticket ++ rest_bytes enqueued failure place
move_bytes (Drop ticket) = 3 ∷ word_bytes ticket
move_bytes DropAll = 4 ∷ []
move_bytes (Totals next processed failures) =
    5 ∷ word_bytes next ++ word_bytes processed ++ word_bytes failures

-- moves: one behind the other
abbrev pub moves_bytes : List Move → List ℕ
moves_bytes moves = flat_map move_bytes moves
