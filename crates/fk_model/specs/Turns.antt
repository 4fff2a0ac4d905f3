-- One turn: the state is brought up to date, and then the request acts.
use Rattle.std.specs.Prelude.{ℕ, List, [], ◌∷◌, ◌++◌, map, option_to_list}
use Rattle.std.specs.List.{enumerate_from}
use Rattle.fk_job.specs.declared.job.Job.{Job}
use Rattle.fk_model.specs.declared.row.Row.{Row}
use Rattle.fk_model.specs.declared.ask.Ask.{Ask}
use Rattle.fk_model.specs.declared.ask.Ask.TheVariants.{Hello, Push, PushBatch, Fetch, Ack, Fail, Beat, Signal, Info, Flush, Mutate, Tick}
use Rattle.fk_model.specs.declared.move_.Move.{Move}
use Rattle.fk_model.specs.declared.move_.Move.TheVariants.{Add, Put, Drop, Totals}
use Rattle.fk_model.specs.Rows.{ticket_of, row_of}
use Rattle.fk_model.specs.State.{KeptState, State}
use Rattle.fk_model.specs.Orders.{leased}
use Rattle.fk_model.specs.Failing.{Reason}
use Rattle.fk_model.specs.Bringing.{brought_up, moves_of_failed, moves_up}
use Rattle.fk_model.specs.Workers.{fresh}
use Rattle.fk_model.specs.Requests.{pushed_row, reserved_row, fetched}
use Rattle.fk_model.specs.Mutated.{moves_of_flush, moves_of_mutated, taken}
use Rattle.fk_model.specs.Said.{Effect, said}

-- the state brought up to the moment of a turn: the kept state, and the workers, of whom some are forgotten
abbrev pub up_to_date : State → ℕ → ℕ → State
up_to_date state moment word =
    record { kept = brought_up state.kept moment word; workers = fresh moment state.workers }

-- what a turn does, by its moment and its word
abbrev pub turn : State → Ask → ℕ → ℕ → Effect
turn state ask moment word = said (up_to_date state moment word) ask moment word

-- ---- the moves of a turn

-- a new row for each job, under the tickets from a number on
abbrev pub moves_of_push : ℕ → ℕ → List Job → List Move
moves_of_push moment next jobs =
    map (λ ticketed. Add ticketed.0 (pushed_row moment ticketed.0 ticketed.1))
    (enumerate_from next jobs)

-- a row gets a new place, and is told with what else moves tell of a row
abbrev pub move_to : ℕ → Row → Move
move_to ticket row = Put ticket row.stamp.enqueued row.stamp.failure row.place

-- of the rows of that jid that workers have, the one of the least ticket meets its fate
abbrev pub moves_of_fail : KeptState → List ℕ → Reason → ℕ → ℕ → List Move
moves_of_fail kept jid reason moment word =
    moves_of_failed reason moment word (option_to_list (leased kept jid))

-- the moves of a request, one for each row that it changes, and one for all rows of a FLUSH, in a state that was
-- brought up to date from another kept state, which a FLUSH alone looks at
unfoldable pub moves_of : KeptState → State → Ask → ℕ → ℕ → List Move
moves_of before state (Push job) moment word = moves_of_push moment state.kept.next (job ∷ [])
moves_of before state (PushBatch jobs told) moment word = moves_of_push moment state.kept.next jobs
moves_of before state (Fetch wid queues) moment word =
    map (λ filed. move_to (ticket_of filed) (reserved_row moment wid (row_of filed)))
    (option_to_list (fetched state wid queues))
moves_of before state (Ack jid) moment word =
    map (λ filed. Drop (ticket_of filed)) (option_to_list (leased state.kept jid))
moves_of before state (Fail jid errtype message backtrace) moment word =
    moves_of_fail state.kept jid (record { errtype = errtype; message = message; backtrace = backtrace }) moment word
moves_of before state Flush moment word = moves_of_flush before
moves_of before state (Mutate cmd target filter) moment word =
    moves_of_mutated cmd moment state.kept.next (taken cmd target filter state.kept)
moves_of before state (Hello wid) moment word = []
moves_of before state (Beat wid) moment word = []
moves_of before state (Signal wid given) moment word = []
moves_of before state Info moment word = []
moves_of before state Tick moment word = []

-- the numbers of a kept state
abbrev pub totals : KeptState → Move
totals kept = Totals kept.next kept.processed kept.failures

-- moves, one for each row that is changed, and one for all rows of a FLUSH, and behind them the numbers at the end
abbrev pub closed : List Move → KeptState → List Move
closed [] kept = []
closed (move ∷ moves) kept = (move ∷ moves) ++ totals kept ∷ []

-- the moves of a turn: one for each row that being brought up to date changes, then one for each row that the
-- request changes, and one for all rows of a FLUSH, and the numbers last. There is none where the kept state stays
abbrev pub moves_of_turn : State → Ask → ℕ → ℕ → List Move
moves_of_turn state ask moment word =
    closed
    (moves_up state.kept moment word
    ++ moves_of state.kept (up_to_date state moment word) ask moment word)
    (turn state ask moment word).state.kept
