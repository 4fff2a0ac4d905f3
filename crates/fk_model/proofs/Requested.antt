-- What a request changes: its moves change the rows as it does, and they fit.
use Rattle.std.proofs.Common.{◌≡◌, refl, ℕ, ◌<◌, ◌≤◌, List, [], ◌∷◌, Bool, true, false, map, arith}
use Rattle.std.specs.Prelude.{if◌then◌else◌, Option, None, Some, option_to_list}
use Rattle.std.specs.Option.{option_map_or}
use Rattle.std.proofs.lemmas.List.Elements.{All-nil, All-cons}
use Rattle.fk_time.specs.Moments.{greatest}
use Rattle.fk_frame.specs.declared.reply.Reply.TheVariants.{Nil}
use Rattle.fk_model.specs.declared.row.Row.{Row}
use Rattle.fk_model.specs.declared.ask.Ask.{Ask}
use Rattle.fk_model.specs.declared.ask.Ask.TheVariants.{Push, PushBatch, Fetch, Ack, Fail, Flush, Mutate}
use Rattle.fk_model.specs.declared.move_.Move.{Move}
use Rattle.fk_model.specs.declared.move_.Move.TheVariants.{Drop}
use Rattle.fk_model.specs.Limits.{greatest_next}
use Rattle.fk_model.specs.Rows.{ticket_of}
use Rattle.fk_model.specs.State.{KeptState, State}
use Rattle.fk_model.specs.Orders.{first_waiting, leased}
use Rattle.fk_job.specs.Spellings.{HasJobSpelling, IsText}
use Rattle.fk_model.specs.Between.{IsWellKept}
use Rattle.fk_model.specs.Range.{IsInRange}
use Rattle.fk_model.specs.Requests.{is_held_back, fetched, finished}
use Rattle.fk_model.specs.Mutated.{taken}
use Rattle.fk_model.specs.Said.{only_said, handed_out, said}
use Rattle.fk_model.specs.Turns.{moves_of}
use Rattle.fk_model.proofs.Orderly.{IsOrderly, orderly}
use Rattle.fk_model.proofs.Leading.{AreRowsOf, AreRowsBehind, HasNumbers, behind}
use Rattle.fk_model.proofs.Pushes.{pushes_are_rows, pushes_have_numbers}
use Rattle.fk_model.proofs.Waiting.{IsFirstRow, first_waiting_is, IsLeased, leased_is}
use Rattle.fk_model.proofs.OfSets.{taken_are}
use Rattle.fk_model.proofs.MutateMoves.{mutated_are_rows, mutated_has_numbers}
use Rattle.fk_model.proofs.Flushing.{IsFromNothing, flush_are_rows, flush_has_numbers}
use Rattle.fk_model.proofs.FailMoves.{fail_rows, fail_numbers, fail_next}
use Rattle.fk_model.proofs.Effects.{nothing_is_rows, nothing_has_numbers, handing, handed_are_rows, handed_have_numbers, finished_are_rows, finished_have_numbers}

-- ---- what is fetched

fetched_if : (s : State) (queues : List (List ℕ)) (filed : ℕ × Row) (held : Bool)
    → IsOrderly s.kept → (if held then None else first_waiting s.kept queues) ≡ Some filed
    → IsFirstRow s.kept filed
fetched_if s queues filed true well at = absurd (cc)
fetched_if s queues filed false well at = first_waiting_is s.kept queues filed well.by_ticket at

pub fetched_is : (s : State) (wid : List ℕ) (queues : List (List ℕ)) (filed : ℕ × Row)
    → IsOrderly s.kept → fetched s wid queues ≡ Some filed → IsFirstRow s.kept filed
fetched_is s wid queues filed well at =
    fetched_if s queues filed (is_held_back s.workers wid) well at

-- ---- the rows that a request changes

-- the moves of a row that is handed out, if one is
abbrev moves_of_fetch : ℕ → List ℕ → Option (ℕ × Row) → List Move
moves_of_fetch moment wid found = map (handing moment wid) (option_to_list found)

abbrev moves_of_ack : Option (ℕ × Row) → List Move
moves_of_ack found = map (λ filed. Drop (ticket_of filed)) (option_to_list found)

abbrev pub after_fetch : State → ℕ → List ℕ → Option (ℕ × Row) → State
after_fetch s moment wid found =
    (option_map_or (handed_out s moment wid) found (only_said s Nil)).state

fetch_rows : (s : State) (moment : ℕ) (wid : List ℕ) (found : Option (ℕ × Row)) → IsOrderly s.kept
    → ((filed : ℕ × Row) → found ≡ Some filed → IsFirstRow s.kept filed)
    → AreRowsOf s.kept (moves_of_fetch moment wid found) (after_fetch s moment wid found).kept
fetch_rows s moment wid None well first = nothing_is_rows s.kept
fetch_rows s moment wid (Some filed) well first =
    handed_are_rows s.kept moment wid filed well (first filed refl)

ack_rows : (kept : KeptState) (found : Option (ℕ × Row))
    → ((filed : ℕ × Row) → found ≡ Some filed → IsLeased kept filed)
    → AreRowsOf kept (moves_of_ack found) (option_map_or (finished kept) found kept)
ack_rows kept None held = nothing_is_rows kept
ack_rows kept (Some filed) held = finished_are_rows kept filed (held filed refl)

pub rows_of : (before : KeptState) (s : State) (ask : Ask) (moment word : ℕ) → IsOrderly s.kept
    → IsFromNothing before s.kept
    → AreRowsBehind before s.kept (moves_of before s ask moment word) (said s ask moment word).state.kept
unfolding said moves_of
rows_of before s Flush moment word well from = flush_are_rows before s.kept from
rows_of before s (Push job) moment word well from = behind before (pushes_are_rows moment (job ∷ []) s.kept)
rows_of before s (PushBatch jobs told) moment word well from = behind before (pushes_are_rows moment jobs s.kept)
rows_of before s (Fetch wid queues) moment word well from =
    behind before (fetch_rows s moment wid (fetched s wid queues) well
    (λ filed at. fetched_is s wid queues filed well at))
rows_of before s (Ack jid) moment word well from =
    behind before (ack_rows s.kept (leased s.kept jid)
    (λ filed at. leased_is s.kept jid filed well.by_ticket at))
rows_of before s (Fail jid errtype message backtrace) moment word well from =
    behind before (fail_rows s jid (record { errtype = errtype; message = message; backtrace = backtrace })
    moment word well)
rows_of before s (Mutate cmd target filter) moment word well from =
    behind before (mutated_are_rows cmd moment s.kept (taken cmd target filter s.kept) well
    (taken_are cmd target filter s.kept well.by_ticket))
rows_of before s other moment word well from = behind before (nothing_is_rows s.kept)

-- ---- and the numbers that they lead to

fetch_numbers : (s : State) (moment : ℕ) (wid : List ℕ) (found : Option (ℕ × Row)) → IsWellKept s.kept
    → IsText wid → moment ≤ greatest → (after_fetch s moment wid found).kept.next ≤ greatest_next
    → ((filed : ℕ × Row) → found ≡ Some filed → IsFirstRow s.kept filed)
    → HasNumbers s.kept (moves_of_fetch moment wid found) (after_fetch s moment wid found).kept
fetch_numbers s moment wid None well text within room first = nothing_has_numbers s.kept well room
fetch_numbers s moment wid (Some filed) well text within room first =
    handed_have_numbers s.kept moment wid filed well text within room (first filed refl)

ack_numbers : (kept : KeptState) (found : Option (ℕ × Row)) → IsWellKept kept
    → (option_map_or (finished kept) found kept).next ≤ greatest_next
    → ((filed : ℕ × Row) → found ≡ Some filed → IsLeased kept filed)
    → HasNumbers kept (moves_of_ack found) (option_map_or (finished kept) found kept)
ack_numbers kept None well room held = nothing_has_numbers kept well room
ack_numbers kept (Some filed) well room held =
    finished_have_numbers kept filed well room (held filed refl)

pub numbers_of : (before : KeptState) (s : State) (ask : Ask) (moment word : ℕ) → IsWellKept s.kept → IsInRange ask
    → moment < greatest → (said s ask moment word).state.kept.next ≤ greatest_next
    → HasNumbers s.kept (moves_of before s ask moment word) (said s ask moment word).state.kept
unfolding said moves_of
numbers_of before s (Push job) moment word well range within room =
    pushes_have_numbers moment (job ∷ []) s.kept (omega (arith, within))
    (All-cons HasJobSpelling job [] range (All-nil HasJobSpelling)) room well.above well.processed
    well.failures
numbers_of before s (PushBatch jobs told) moment word well range within room =
    pushes_have_numbers moment jobs s.kept (omega (arith, within)) range.0.each room well.above well.processed
    well.failures
numbers_of before s (Fetch wid queues) moment word well range within room =
    fetch_numbers s moment wid (fetched s wid queues) well range.0 (omega (arith, within)) room
    (λ filed at. fetched_is s wid queues filed (orderly s.kept well) at)
numbers_of before s (Ack jid) moment word well range within room =
    ack_numbers s.kept (leased s.kept jid) well room
    (λ filed at. leased_is s.kept jid filed well.by_ticket at)
numbers_of before s (Fail jid errtype message backtrace) moment word well range within room =
    fail_numbers s jid (record { errtype = errtype; message = message; backtrace = backtrace }) moment word well
    (record { errtype = range.1; message = range.2; backtrace = range.3 }) within
    (rw (← fail_next s jid (record { errtype = errtype; message = message; backtrace = backtrace }) moment word) room)
numbers_of before s Flush moment word well range within room = flush_has_numbers before s.kept well room
numbers_of before s (Mutate cmd target filter) moment word well range within room =
    mutated_has_numbers cmd moment s.kept (taken cmd target filter s.kept) well within room
    (taken_are cmd target filter s.kept well.by_ticket)
numbers_of before s other moment word well range within room = nothing_has_numbers s.kept well room
