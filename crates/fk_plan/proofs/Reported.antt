-- What the report of a failure does.
use Rattle.std.proofs.Common.{◌≡◌, ◌∙◌, sym, ap, refl, ℕ, ◌<◌, List, [], ◌∷◌, ◌++◌}
use Rattle.std.specs.Prelude.{Option, None, Some, option_map, option_to_list}
use Rattle.std.specs.Option.{option_map_or}
use Rattle.std.proofs.lemmas.Option.{same_Some}
use Rattle.std.proofs.lemmas.List.{append-nil}
use Rattle.fk_time.specs.Moments.{greatest}
use Rattle.fk_frame.specs.declared.reply.Reply.{Reply}
use Rattle.fk_model.specs.declared.row.Row.{Row}
use Rattle.fk_model.specs.declared.ask.Ask.TheVariants.{Fail}
use Rattle.fk_model.specs.declared.move_.Move.{Move}
use Rattle.fk_model.specs.Limits.{raised}
use Rattle.fk_model.specs.Rows.{ticket_of, row_of, row_at}
use Rattle.fk_model.specs.State.{KeptState, State, Worker, with_workers}
use Rattle.fk_model.specs.Orders.{leased}
use Rattle.fk_model.specs.Between.{IsWellKept}
use Rattle.fk_model.specs.Failing.{Reason, failed, failed_row}
use Rattle.fk_model.specs.Bringing.{brought_up, move_for, moves_of_failed}
use Rattle.fk_model.specs.Said.{Effect, ok, unknown_job, kept_and_said, only_said, said}
use Rattle.fk_model.specs.Turns.{moves_of}
use Rattle.fk_plan.specs.declared.numbers.Numbers.{Numbers}
use Rattle.fk_core.specs.Lookups.{leased_beyond}
use Rattle.fk_plan.specs.Plans.{AreNumbersOf, IsDone}
use Rattle.fk_plan.proofs.Held.{leased_up, beyond_stands}

-- the effect of the row that fails, if one does
abbrev fallen : State → Reason → ℕ → ℕ → Option (ℕ × Row) → Effect
fallen up reason moment word found =
    option_map_or (λ filed. kept_and_said up (failed reason moment word up.kept filed) ok) found
    (only_said up unknown_job)

record HasFallen (up : State) (reason : Reason) (moment word : ℕ) (found : Option (ℕ × Row)) (reply : Reply)
    (front moves : List Move) (numbers : Numbers) : Type 0 where
  answer : reply ≡ (fallen up reason moment word found).reply
  made : moves ≡ front ++ moves_of_failed reason moment word (option_to_list found)
  counted : AreNumbersOf (fallen up reason moment word found).state.kept numbers

has_fallen : (before : KeptState) (up : State) (jid : List ℕ) (reason : Reason) (moment word : ℕ)
    (reply : Reply) (front moves : List Move) (numbers : Numbers)
    → HasFallen up reason moment word (leased up.kept jid) reply front moves numbers
    → IsDone before up (Fail jid reason.errtype reason.message reason.backtrace) moment word reply front moves
    numbers
unfolding said moves_of
has_fallen before up jid reason moment word reply front moves numbers is =
    record { answer = is.answer; made = is.made; counted = is.counted }

none_falls : (up : State) (reason : Reason) (moment word : ℕ) (found : Option (ℕ × Row)) (front : List Move)
    (numbers : Numbers) → None ≡ option_map ticket_of found → AreNumbersOf up.kept numbers
    → HasFallen up reason moment word found unknown_job front front numbers
none_falls up reason moment word None front numbers none has =
    record { answer = refl; made = sym (append-nil front); counted = has }
none_falls up reason moment word (Some filed) front numbers none has = absurd (cc)

one_falls : (kept : KeptState) (up : State) (reason : Reason) (moment word : ℕ) (found : Option (ℕ × Row))
    (front : List Move) (numbers : Numbers) (ticket : ℕ) (row : Row) → Some ticket ≡ option_map ticket_of found
    → Some row ≡ row_at kept.rows ticket
    → ((filed : ℕ × Row) → found ≡ Some filed → row_at kept.rows (ticket_of filed) ≡ Some (row_of filed))
    → AreNumbersOf up.kept numbers
    → HasFallen up reason moment word found ok front
    (front ++ move_for ticket (failed_row reason moment word (ticket, row)) ∷ [])
    (record numbers { processed = raised numbers.processed; failures = raised numbers.failures })
one_falls kept up reason moment word None front numbers ticket row one at stands has = absurd (cc)
one_falls kept up reason moment word (Some filed) front numbers ticket row one at stands has =
    let own : ticket ≡ ticket_of filed = same_Some ticket (ticket_of filed) one in
    let same : row ≡ row_of filed = same_Some row (row_of filed)
    (at ∙ ap (row_at kept.rows) own ∙ stands filed refl) in
    record {
      answer = refl;
      made = rw (own, same) refl;
      counted = record {
        next = has.next;
        processed = ap raised has.processed;
        failures = ap raised has.failures;
      };
    }

-- no worker has a row of the jid beyond the moment
pub none_reported : (kept : KeptState) (workers : List Worker) (jid : List ℕ) (reason : Reason) (moment word : ℕ)
    (front : List Move) (numbers : Numbers) → IsWellKept kept → moment < greatest
    → None ≡ option_map ticket_of (leased_beyond kept jid moment)
    → AreNumbersOf (brought_up kept moment word) numbers
    → IsDone kept (with_workers (brought_up kept moment word) workers)
    (Fail jid reason.errtype reason.message reason.backtrace) moment word unknown_job front front numbers
none_reported kept workers jid reason moment word front numbers well told none has =
    let up = with_workers (brought_up kept moment word) workers in
    has_fallen kept up jid reason moment word unknown_job front front numbers
    (none_falls up reason moment word (leased up.kept jid) front numbers (none ∙ ap (option_map ticket_of) (sym (leased_up kept jid moment word well told))) has)

-- the row of a ticket meets its fate
pub one_reported : (kept : KeptState) (workers : List Worker) (jid : List ℕ) (reason : Reason)
    (moment word ticket : ℕ) (row : Row) (front : List Move) (numbers : Numbers) → IsWellKept kept → moment < greatest
    → Some ticket ≡ option_map ticket_of (leased_beyond kept jid moment) → Some row ≡ row_at kept.rows ticket
    → AreNumbersOf (brought_up kept moment word) numbers
    → IsDone kept (with_workers (brought_up kept moment word) workers)
    (Fail jid reason.errtype reason.message reason.backtrace) moment word ok front (front ++ move_for ticket (failed_row reason moment word (ticket, row)) ∷ [])
    (record numbers { processed = raised numbers.processed; failures = raised numbers.failures })
one_reported kept workers jid reason moment word ticket row front numbers well told one at has =
    let up = with_workers (brought_up kept moment word) workers in
    let same = leased_up kept jid moment word well told in
    has_fallen kept up jid reason moment word ok front
    (front ++ move_for ticket (failed_row reason moment word (ticket, row)) ∷ [])
    (record numbers { processed = raised numbers.processed; failures = raised numbers.failures })
    (one_falls kept up reason moment word (leased up.kept jid) front numbers ticket row
    (one ∙ ap (option_map ticket_of) (sym same)) at
    (λ filed e. beyond_stands kept jid moment filed well.by_ticket (sym same ∙ e)) has)

none_there : (kept : KeptState) (ticket : ℕ) (found : Option (ℕ × Row))
    → ((filed : ℕ × Row) → found ≡ Some filed → row_at kept.rows (ticket_of filed) ≡ Some (row_of filed))
    → Some ticket ≡ option_map ticket_of found → None ≡ row_at kept.rows ticket → ⊥
none_there kept ticket None stands one none = absurd (cc)
none_there kept ticket (Some filed) stands one none =
    let own : ticket ≡ ticket_of filed = same_Some ticket (ticket_of filed) one in
    let gone = none ∙ ap (row_at kept.rows) own ∙ stands filed refl in
    absurd (cc)

-- the row of that ticket stands
pub row_held : (kept : KeptState) (jid : List ℕ) (moment ticket : ℕ) → IsWellKept kept
    → Some ticket ≡ option_map ticket_of (leased_beyond kept jid moment) → None ≡ row_at kept.rows ticket → ⊥
row_held kept jid moment ticket well one none =
    none_there kept ticket (leased_beyond kept jid moment)
    (λ filed e. beyond_stands kept jid moment filed well.by_ticket e) one none
