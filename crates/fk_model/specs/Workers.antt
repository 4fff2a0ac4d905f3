-- The list of workers: who is forgotten at a moment, and what each ask makes of those who are left.
use Rattle.std.specs.Prelude.{ℕ, ◌+◌, Bool, false, not, nat_lt, bytes_eq, if◌then◌else◌, List, [], ◌∷◌, ◌++◌, Option, map, filter, option_map}
use Rattle.std.specs.List.{find, list_any, IsDistinct}
use Rattle.std.specs.Option.{option_map_or}
use Rattle.fk_model.specs.declared.ask.Ask.{Ask}
use Rattle.fk_model.specs.declared.ask.Ask.TheVariants.{Hello, Push, PushBatch, Fetch, Ack, Fail, Beat, Signal, Info, Flush, Mutate, Tick}
use Rattle.fk_model.specs.declared.work_state.WorkState.{WorkState}
use Rattle.fk_model.specs.declared.work_state.WorkState.TheVariants.{Running, Quiet, Terminate}
use Rattle.fk_model.specs.State.{Worker}
use Rattle.fk_model.specs.Requests.{is_running}

-- ---- who is forgotten

-- how long a worker may be silent, in milliseconds
abbrev pub forget_after : ℕ
forget_after = 60_000

-- a worker that was seen then is kept at a moment
abbrev pub is_fresh : ℕ → ℕ → Bool
is_fresh moment seen = nat_lt moment (seen + forget_after)

-- the workers that aren't to be forgotten at a moment
abbrev pub fresh : ℕ → List Worker → List Worker
fresh moment workers = filter (λ worker. is_fresh moment worker.seen) workers

-- ---- who is listed

-- no two workers have one wid
abbrev pub AreApart : List Worker → Type 0
AreApart workers = IsDistinct bytes_eq (map (λ worker. worker.wid) workers)

-- the worker has this wid
abbrev pub is_named : List ℕ → Worker → Bool
is_named wid worker = bytes_eq wid worker.wid

-- the state of the worker of a wid, if it is listed
abbrev pub state_of : List ℕ → List Worker → Option WorkState
state_of wid workers = option_map (λ worker. worker.state) (find (is_named wid) workers)

-- what is told of a worker keeps new jobs from it: it is listed, and in another state than running
abbrev pub holds_back : Option WorkState → Bool
holds_back told = option_map_or (λ state. not (is_running state)) told false

-- the workers, where the one of a wid is changed
abbrev pub changed : (Worker → Worker) → List ℕ → List Worker → List Worker
changed change wid workers =
    map (λ worker. if is_named wid worker then change worker else worker) workers

-- ---- what the asks make of the list

-- a worker that says its name at a moment
abbrev pub newcomer : List ℕ → ℕ → Worker
newcomer wid moment = record { wid = wid; state = Running; seen = moment }

-- a worker says its name: who has that wid is replaced in its place, and a new one goes last
abbrev pub introduced : List ℕ → ℕ → List Worker → List Worker
introduced wid moment workers =
    if list_any (is_named wid) workers
    then changed (λ worker. newcomer wid moment) wid workers
    else workers ++ newcomer wid moment ∷ []

-- the worker of a wid is seen at a moment
abbrev pub seen_again : List ℕ → ℕ → List Worker → List Worker
seen_again wid moment workers = changed (λ worker. record worker { seen = moment }) wid workers

-- how far a worker is told to end: the states rise in this order
abbrev pub level : WorkState → ℕ
level Running = 0
level Quiet = 1
level Terminate = 2

-- the greater of two states
abbrev pub greater : WorkState → WorkState → WorkState
greater own given = if nat_lt (level own) (level given) then given else own

-- the worker of a wid gets a state, unless it has a greater one
abbrev pub signalled : List ℕ → WorkState → List Worker → List Worker
signalled wid state workers =
    changed (λ worker. record worker { state = greater worker.state state }) wid workers

-- what an ask makes of the workers: those that say nothing of them leave them as they are
abbrev pub acted : Ask → ℕ → List Worker → List Worker
acted (Hello wid) moment workers = introduced wid moment workers
acted (Beat wid) moment workers = seen_again wid moment workers
acted (Signal wid state) moment workers = signalled wid state workers
acted (Push job) moment workers = workers
acted (PushBatch jobs told) moment workers = workers
acted (Fetch wid queues) moment workers = workers
acted (Ack jid) moment workers = workers
acted (Fail jid errtype message backtrace) moment workers = workers
acted Info moment workers = workers
acted Flush moment workers = workers
acted (Mutate cmd target filter) moment workers = workers
acted Tick moment workers = workers

-- the workers after a turn: first some are forgotten, and then the ask acts on those who are left
abbrev pub after_turn : Ask → ℕ → List Worker → List Worker
after_turn ask moment workers = acted ask moment (fresh moment workers)
