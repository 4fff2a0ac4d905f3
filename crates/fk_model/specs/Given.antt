-- What an entry adds, and what it gives: the tickets and jobs of a push, and the row of a FETCH.
use Rattle.std.specs.Prelude.{ℕ, List, [], ◌∷◌, ◌++◌, Option, None, option_map}
use Rattle.std.specs.List.{enumerate_from}
use Rattle.fk_job.specs.declared.job.Job.{Job}
use Rattle.fk_model.specs.declared.place.Place.{Place}
use Rattle.fk_model.specs.declared.ask.Ask.{Ask}
use Rattle.fk_model.specs.declared.ask.Ask.TheVariants.{Hello, Push, PushBatch, Fetch, Ack, Fail, Beat, Signal, Info, Flush, Mutate, Tick}
use Rattle.fk_model.specs.declared.answer.Answer.{Answer}
use Rattle.fk_model.specs.declared.answer.Answer.TheVariants.{Said, NoMemory, Full, DiskFault}
use Rattle.fk_model.specs.declared.entry.Entry.{Entry}
use Rattle.fk_model.specs.Rows.{ticket_of, row_of}
use Rattle.fk_model.specs.State.{State}
use Rattle.fk_model.specs.Requests.{fetched, reserved_row}
use Rattle.fk_model.specs.Turns.{up_to_date}
use Rattle.fk_model.specs.History.{next_state}

-- the state of an entry's turn once it was brought up to date
abbrev pub up_for : State → Entry → State
up_for state entry = up_to_date state entry.told.moment entry.told.word

-- ---- what is added

-- the jobs that a request brings
abbrev pub jobs_in : Ask → List Job
jobs_in (Hello wid) = []
jobs_in (Push job) = job ∷ []
jobs_in (PushBatch jobs told) = jobs
jobs_in (Fetch wid queues) = []
jobs_in (Ack jid) = []
jobs_in (Fail jid errtype message backtrace) = []
jobs_in (Beat wid) = []
jobs_in (Signal wid given) = []
jobs_in Info = []
jobs_in Flush = []
jobs_in (Mutate cmd target filter) = []
jobs_in Tick = []

-- the tickets and jobs that an entry adds, by what was answered: under the numbers from the next one on, in the
-- order of the batch
abbrev pub added_by : State → Entry → Answer → List (ℕ × Job)
added_by state entry (Said reply) =
    enumerate_from (up_for state entry).kept.next (jobs_in entry.ask)
added_by state entry NoMemory = []
added_by state entry Full = []
added_by state entry DiskFault = []

-- those that a history adds, in order
abbrev pub added : State → List Entry → List (ℕ × Job)
added state [] = []
added state (entry ∷ entries) =
    added_by state entry entry.answer ++ added (next_state state entry) entries

-- ---- what is given

-- the ticket that a FETCH of these queues gives to a worker, and the place that its row has from then on
abbrev pub given_to : State → ℕ → List ℕ → List (List ℕ) → Option (ℕ × Place)
given_to up moment wid queues =
    option_map (λ filed. (ticket_of filed, (reserved_row moment wid (row_of filed)).place))
    (fetched up wid queues)

-- those that an entry gave, if it is a FETCH that was answered
abbrev pub given_by : State → Entry → Answer → Ask → Option (ℕ × Place)
given_by state entry (Said reply) (Fetch wid queues) =
    given_to (up_for state entry) entry.told.moment wid queues
given_by state entry answer ask = None
