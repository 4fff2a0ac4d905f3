-- What an acknowledgement does.
use Rattle.std.proofs.Common.{◌≡◌, ◌∙◌, sym, ap, refl, ℕ, ◌<◌, List, [], ◌∷◌, ◌++◌, map}
use Rattle.std.specs.Prelude.{Option, None, Some, option_map, option_to_list}
use Rattle.std.specs.Option.{option_map_or}
use Rattle.std.proofs.lemmas.Option.{same_Some}
use Rattle.std.proofs.lemmas.List.{append-nil}
use Rattle.fk_time.specs.Moments.{greatest}
use Rattle.fk_model.specs.declared.row.Row.{Row}
use Rattle.fk_model.specs.declared.ask.Ask.TheVariants.{Ack}
use Rattle.fk_model.specs.declared.move_.Move.{Move}
use Rattle.fk_model.specs.declared.move_.Move.TheVariants.{Drop}
use Rattle.fk_model.specs.Limits.{raised}
use Rattle.fk_model.specs.Rows.{ticket_of}
use Rattle.fk_model.specs.State.{KeptState, State, Worker, with_workers}
use Rattle.fk_model.specs.Orders.{leased}
use Rattle.fk_model.specs.Between.{IsWellKept}
use Rattle.fk_model.specs.Bringing.{brought_up}
use Rattle.fk_model.specs.Requests.{finished}
use Rattle.fk_model.specs.Said.{ok, said}
use Rattle.fk_model.specs.Turns.{moves_of}
use Rattle.fk_plan.specs.declared.numbers.Numbers.{Numbers}
use Rattle.fk_core.specs.Lookups.{leased_beyond}
use Rattle.fk_plan.specs.Plans.{AreNumbersOf, IsDone}
use Rattle.fk_plan.proofs.Held.{leased_up}

-- what the row that leaves comes to, if one does
record IsEnded (up : KeptState) (found : Option (ℕ × Row)) (front moves : List Move) (numbers : Numbers)
    : Type 0 where
  made : moves ≡ front ++ map (λ filed. Drop (ticket_of filed)) (option_to_list found)
  counted : AreNumbersOf (option_map_or (finished up) found up) numbers

ended : (before : KeptState) (up : State) (jid : List ℕ) (moment word : ℕ) (front moves : List Move)
    (numbers : Numbers) → IsEnded up.kept (leased up.kept jid) front moves numbers
    → IsDone before up (Ack jid) moment word ok front moves numbers
unfolding said moves_of
ended before up jid moment word front moves numbers is =
    record { answer = refl; made = is.made; counted = is.counted }

none_ends : (up : KeptState) (found : Option (ℕ × Row)) (front : List Move) (numbers : Numbers)
    → None ≡ option_map ticket_of found → AreNumbersOf up numbers → IsEnded up found front front numbers
none_ends up None front numbers none has = record { made = sym (append-nil front); counted = has }
none_ends up (Some filed) front numbers none has = absurd (cc)

one_ends : (up : KeptState) (found : Option (ℕ × Row)) (front : List Move) (numbers : Numbers) (ticket : ℕ)
    → Some ticket ≡ option_map ticket_of found → AreNumbersOf up numbers
    → IsEnded up found front (front ++ Drop ticket ∷ [])
    (record numbers { processed = raised numbers.processed })
one_ends up None front numbers ticket one has = absurd (cc)
one_ends up (Some filed) front numbers ticket one has = record {
  made = rw (same_Some ticket (ticket_of filed) one) refl;
  counted = record { next = has.next; processed = ap raised has.processed; failures = has.failures };
}

-- no worker has a row of the jid beyond the moment
pub none_acknowledged : (kept : KeptState) (workers : List Worker) (jid : List ℕ) (moment word : ℕ)
    (front : List Move) (numbers : Numbers) → IsWellKept kept → moment < greatest → None ≡ option_map ticket_of (leased_beyond kept jid moment)
    → AreNumbersOf (brought_up kept moment word) numbers
    → IsDone kept (with_workers (brought_up kept moment word) workers) (Ack jid) moment word ok front front numbers
none_acknowledged kept workers jid moment word front numbers well told none has =
    ended kept (with_workers (brought_up kept moment word) workers) jid moment word front front numbers
    (none_ends (brought_up kept moment word) (leased (brought_up kept moment word) jid) front numbers
    (none ∙ ap (option_map ticket_of) (sym (leased_up kept jid moment word well told))) has)

-- the row of a ticket leaves
pub one_acknowledged : (kept : KeptState) (workers : List Worker) (jid : List ℕ) (moment word ticket : ℕ) (front : List Move)
    (numbers : Numbers) → IsWellKept kept → moment < greatest
    → Some ticket ≡ option_map ticket_of (leased_beyond kept jid moment)
    → AreNumbersOf (brought_up kept moment word) numbers
    → IsDone kept (with_workers (brought_up kept moment word) workers) (Ack jid) moment word ok front
    (front ++ Drop ticket ∷ [])
    (record numbers { processed = raised numbers.processed })
one_acknowledged kept workers jid moment word ticket front numbers well told one has =
    ended kept (with_workers (brought_up kept moment word) workers) jid moment word front (front ++ Drop ticket ∷ [])
    (record numbers { processed = raised numbers.processed })
    (one_ends (brought_up kept moment word) (leased (brought_up kept moment word) jid) front numbers ticket
    (one ∙ ap (option_map ticket_of) (sym (leased_up kept jid moment word well told))) has)
