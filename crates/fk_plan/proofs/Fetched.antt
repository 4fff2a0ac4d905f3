-- What a fetch does.
use Rattle.std.proofs.Common.{◌≡◌, ◌∙◌, sym, ap, refl, ℕ, ◌<◌, ◌≤◌, ◌*◌, List, [], ◌∷◌, ◌++◌, inl, inr, map, Bool, true, false, arith}
use Rattle.std.specs.Prelude.{if◌then◌else◌, Option, None, Some, IsTrue, is_some, option_map, option_to_list}
use Rattle.std.specs.Option.{option_map_or}
use Rattle.std.proofs.lemmas.Option.{same_Some, IfSome_then}
use Rattle.std.proofs.lemmas.List.{append-nil}
use Rattle.fk_time.specs.Moments.{greatest}
use Rattle.fk_frame.specs.declared.reply.Reply.{Reply}
use Rattle.fk_frame.specs.declared.reply.Reply.TheVariants.{Bulk, Nil}
use Rattle.fk_job.specs.RowText.{row_text, HasMoments}
use Rattle.fk_job.specs.Fields.{most_reserve}
use Rattle.fk_model.specs.declared.row.Row.{Row}
use Rattle.fk_model.specs.declared.place.Place.TheVariants.{Working}
use Rattle.fk_model.specs.declared.ask.Ask.TheVariants.{Fetch}
use Rattle.fk_model.specs.declared.move_.Move.{Move}
use Rattle.fk_model.specs.declared.move_.Move.TheVariants.{Add, Put}
use Rattle.fk_model.specs.Limits.{later_by, second_length}
use Rattle.fk_model.specs.Rows.{ticket_of, row_of, row_at}
use Rattle.fk_model.specs.State.{KeptState, State, Worker, with_workers}
use Rattle.fk_model.specs.Spellings.{HasRowSpelling, HasSpelling}
use Rattle.fk_model.specs.Between.{IsWellKept}
use Rattle.fk_model.specs.Orders.{rank_of, is_queued, first_waiting}
use Rattle.fk_model.specs.Bringing.{brought_up}
use Rattle.fk_model.specs.Requests.{is_held_back, fetched, reserved_row}
use Rattle.fk_model.specs.Said.{Effect, said, handed_out, only_said}
use Rattle.fk_model.specs.Turns.{move_to, moves_of}
use Rattle.fk_model.proofs.Tickets.{row_holds}
use Rattle.fk_model.proofs.Waiting.{IsFirstRow, first_waiting_is}
use Rattle.fk_model.proofs.UpToDate.{up_orderly}
use Rattle.fk_plan.specs.declared.numbers.Numbers.{Numbers}
use Rattle.fk_plan.specs.Arrivals.{stamp_in_queue}
use Rattle.fk_plan.specs.Plans.{AreNumbersOf, IsDone}
use Rattle.fk_plan.proofs.Came.{HasEntered, waited_or_entered}

-- ---- a row that stands under a ticket

row_spelled : (kept : KeptState) (ticket : ℕ) (row : Row) → IsWellKept kept
    → Some row ≡ row_at kept.rows ticket → HasRowSpelling row
row_spelled kept ticket row well at =
    let spelled = row_holds (λ x. HasSpelling (Add (ticket_of x) (row_of x))) kept.rows ticket row
    well.spelled (sym at) in spelled.1

stamp_has : (moment : ℕ) (row : Row) (waits : Bool) → moment < greatest → HasRowSpelling row
    → HasMoments (if waits then row.stamp
    else record { created = row.stamp.created; enqueued = Some moment; failure = row.stamp.failure })
stamp_has moment row true told spelled = record {
  created = spelled.created;
  enqueued = spelled.rest.when;
  failed = IfSome_then row.stamp.failure spelled.rest.failed
      (λ failure fits. record { failed_by = fits.failed; next = fits.next });
}
stamp_has moment row false told spelled = record {
  created = spelled.created;
  enqueued = omega (arith, told);
  failed = IfSome_then row.stamp.failure spelled.rest.failed
      (λ failure fits. record { failed_by = fits.failed; next = fits.next });
}

-- the moments of its stamp can be written, once it waits
pub stamp_has_moments : (kept : KeptState) (moment ticket : ℕ) (row : Row) → IsWellKept kept → moment < greatest
    → Some row ≡ row_at kept.rows ticket → HasMoments (stamp_in_queue moment row)
stamp_has_moments kept moment ticket row well told at =
    stamp_has moment row (is_queued row.place) told (row_spelled kept ticket row well at)

-- its job says for how long a worker may have it, within the bound
pub row_has_bound : (kept : KeptState) (ticket : ℕ) (row : Row) → IsWellKept kept
    → Some row ≡ row_at kept.rows ticket → row.job.reserve_for ≤ most_reserve
row_has_bound kept ticket row well at =
    let spelled = row_spelled kept ticket row well at in spelled.job.most

-- ---- the row that is found, if one is

abbrev handed : State → ℕ → List ℕ → Option (ℕ × Row) → Effect
handed up moment wid found = option_map_or (handed_out up moment wid) found (only_said up Nil)

abbrev moved : ℕ → List ℕ → Option (ℕ × Row) → List Move
moved moment wid found =
    map (λ filed. move_to (ticket_of filed) (reserved_row moment wid (row_of filed)))
    (option_to_list found)

record IsHanded (up : State) (moment : ℕ) (wid : List ℕ) (found : Option (ℕ × Row)) (reply : Reply)
    (front moves : List Move) (numbers : Numbers) : Type 0 where
  answer : reply ≡ (handed up moment wid found).reply
  made : moves ≡ front ++ moved moment wid found
  counted : AreNumbersOf (handed up moment wid found).state.kept numbers

handed_done : (before : KeptState) (up : State) (wid : List ℕ) (queues : List (List ℕ)) (moment word : ℕ)
    (reply : Reply) (front moves : List Move) (numbers : Numbers)
    → IsHanded up moment wid (fetched up wid queues) reply front moves numbers
    → IsDone before up (Fetch wid queues) moment word reply front moves numbers
unfolding said moves_of
handed_done before up wid queues moment word reply front moves numbers is =
    record { answer = is.answer; made = is.made; counted = is.counted }

not_held : (up : State) (moment : ℕ) (wid : List ℕ) (found : Option (ℕ × Row)) (held : Bool) (reply : Reply)
    (front moves : List Move) (numbers : Numbers) → held ≡ false
    → IsHanded up moment wid found reply front moves numbers
    → IsHanded up moment wid (if held then None else found) reply front moves numbers
not_held up moment wid found true reply front moves numbers not is = absurd (cc)
not_held up moment wid found false reply front moves numbers not is = is

-- where the worker isn't held back
done : (before : KeptState) (up : State) (wid : List ℕ) (queues : List (List ℕ)) (moment word : ℕ) (reply : Reply)
    (front moves : List Move) (numbers : Numbers) → is_held_back up.workers wid ≡ false
    → IsHanded up moment wid (first_waiting up.kept queues) reply front moves numbers
    → IsDone before up (Fetch wid queues) moment word reply front moves numbers
done before up wid queues moment word reply front moves numbers not is =
    handed_done before up wid queues moment word reply front moves numbers
    (not_held up moment wid (first_waiting up.kept queues) (is_held_back up.workers wid) reply front moves
    numbers not is)

none_handed : (up : State) (moment : ℕ) (wid : List ℕ) (found : Option (ℕ × Row)) (front : List Move)
    (numbers : Numbers) → None ≡ option_map ticket_of found → AreNumbersOf up.kept numbers
    → IsHanded up moment wid found Nil front front numbers
none_handed up moment wid None front numbers none has =
    record { answer = refl; made = sym (append-nil front); counted = has }
none_handed up moment wid (Some filed) front numbers none has = absurd (cc)

-- no row waits
pub none_fetched : (kept : KeptState) (workers : List Worker) (wid : List ℕ) (queues : List (List ℕ))
    (moment word : ℕ) (front : List Move) (numbers : Numbers) → is_held_back workers wid ≡ false
    → None ≡ option_map ticket_of (first_waiting (brought_up kept moment word) queues)
    → AreNumbersOf (brought_up kept moment word) numbers
    → IsDone kept (with_workers (brought_up kept moment word) workers) (Fetch wid queues) moment word Nil front
    front numbers
none_fetched kept workers wid queues moment word front numbers not none has =
    let up = with_workers (brought_up kept moment word) workers in
    done kept up wid queues moment word Nil front front numbers not
    (none_handed up moment wid (first_waiting up.kept queues) front numbers none has)

-- ---- a worker that is held back

held_none : (up : State) (moment : ℕ) (wid : List ℕ) (found : Option (ℕ × Row)) (held : Bool) (front : List Move)
    (numbers : Numbers) → held ≡ true → AreNumbersOf up.kept numbers
    → IsHanded up moment wid (if held then None else found) Nil front front numbers
held_none up moment wid found true front numbers is has =
    none_handed up moment wid None front numbers refl has
held_none up moment wid found false front numbers is has = absurd (cc)

pub held_fetched : (before : KeptState) (up : State) (wid : List ℕ) (queues : List (List ℕ)) (moment word : ℕ)
    (front : List Move) (numbers : Numbers) → is_held_back up.workers wid ≡ true → AreNumbersOf up.kept numbers
    → IsDone before up (Fetch wid queues) moment word Nil front front numbers
held_fetched before up wid queues moment word front numbers held has =
    handed_done before up wid queues moment word Nil front front numbers
    (held_none up moment wid (first_waiting up.kept queues) (is_held_back up.workers wid) front numbers held has)

-- ---- the row as it is handed out

-- it has the job of the row that stands in the tables, and the stamp of one that waits
record IsSameJob (kept : KeptState) (moment ticket : ℕ) (new : Row) : Type 0 where
  old : Row
  stood : row_at kept.rows ticket ≡ Some old
  job : new.job ≡ old.job
  stamp : new.stamp ≡ stamp_in_queue moment old

queued_if : (place_rank : Option ℕ) (rank : ℕ) → place_rank ≡ Some rank → is_some place_rank ≡ true
queued_if None rank e = absurd (cc)
queued_if (Some other) rank e = refl

not_queued : (waits : Bool) → ¬ IsTrue waits → waits ≡ false
not_queued true none = absurd (none refl)
not_queued false none = refl

entered_same : (kept : KeptState) (moment ticket : ℕ) (new : Row) → HasEntered kept moment ticket new
    → IsSameJob kept moment ticket new
entered_same kept moment ticket new has = record {
  old = has.old;
  stood = has.stood;
  job = ap (λ (row : Row). row.job) has.is;
  stamp = rw (not_queued (is_queued has.old.place) has.apart) (ap (λ (row : Row). row.stamp) has.is);
}

same_job : (kept : KeptState) (moment word : ℕ) (filed : ℕ × Row) → IsWellKept kept
    → IsFirstRow (brought_up kept moment word) filed
    → IsSameJob kept moment (ticket_of filed) (row_of filed)
same_job kept moment word filed well first =
    let queued : is_queued (row_of filed).place ≡ true =
    queued_if (rank_of (row_of filed).place) first.rank first.waits in
    elim (waited_or_entered kept moment word (ticket_of filed) (row_of filed) well first.stands queued) [
      | inl stands ↦ record { old = row_of filed; stood = stands; job = refl; stamp = rw queued refl }
      | inr has ↦ entered_same kept moment (ticket_of filed) (row_of filed) has
    ]

one_handed : (kept : KeptState) (workers : List Worker) (queues : List (List ℕ)) (moment word : ℕ) (wid : List ℕ)
    (ticket : ℕ) (row : Row) (found : Option (ℕ × Row)) (front : List Move) (numbers : Numbers) → IsWellKept kept
    → first_waiting (brought_up kept moment word) queues ≡ found
    → Some ticket ≡ option_map ticket_of found → Some row ≡ row_at kept.rows ticket
    → AreNumbersOf (brought_up kept moment word) numbers
    → IsHanded (with_workers (brought_up kept moment word) workers) moment wid found
    (Bulk (row_text row.job (stamp_in_queue moment row))) front
    (front ++ Put ticket (stamp_in_queue moment row).enqueued (stamp_in_queue moment row).failure
    (Working wid moment (later_by (second_length * row.job.reserve_for) moment)) ∷ []) numbers
one_handed kept workers queues moment word wid ticket row None front numbers well at one here has = absurd (cc)
one_handed kept workers queues moment word wid ticket row (Some filed) front numbers well at one here has =
    let first = first_waiting_is (brought_up kept moment word) queues filed
    (up_orderly kept moment word well).by_ticket at in
    let is = same_job kept moment word filed well first in
    let own : ticket ≡ ticket_of filed = same_Some ticket (ticket_of filed) one in
    let same : row ≡ is.old = same_Some row is.old (here ∙ ap (row_at kept.rows) own ∙ is.stood) in
    record {
      answer = rw (same, ← is.stamp, ← is.job) refl;
      made = rw (own, same, ← is.stamp, ← is.job) refl;
      counted = record { next = has.next; processed = has.processed; failures = has.failures };
    }

-- the row of a ticket is handed out
pub one_fetched : (kept : KeptState) (workers : List Worker) (wid : List ℕ) (queues : List (List ℕ))
    (moment word ticket : ℕ) (row : Row) (front : List Move) (numbers : Numbers)
    → is_held_back workers wid ≡ false → IsWellKept kept
    → Some ticket ≡ option_map ticket_of (first_waiting (brought_up kept moment word) queues)
    → Some row ≡ row_at kept.rows ticket → AreNumbersOf (brought_up kept moment word) numbers
    → IsDone kept (with_workers (brought_up kept moment word) workers) (Fetch wid queues) moment word
    (Bulk (row_text row.job (stamp_in_queue moment row))) front
    (front ++ Put ticket (stamp_in_queue moment row).enqueued (stamp_in_queue moment row).failure
    (Working wid moment (later_by (second_length * row.job.reserve_for) moment)) ∷ []) numbers
one_fetched kept workers wid queues moment word ticket row front numbers not well one here has =
    let up = with_workers (brought_up kept moment word) workers in
    let stamp = stamp_in_queue moment row in
    done kept up wid queues moment word (Bulk (row_text row.job stamp)) front
    (front ++ Put ticket stamp.enqueued stamp.failure
    (Working wid moment (later_by (second_length * row.job.reserve_for) moment)) ∷ []) numbers not
    (one_handed kept workers queues moment word wid ticket row (first_waiting up.kept queues) front numbers well
    refl one here has)

no_row : (kept : KeptState) (queues : List (List ℕ)) (moment word ticket : ℕ) (found : Option (ℕ × Row))
    → IsWellKept kept → first_waiting (brought_up kept moment word) queues ≡ found
    → Some ticket ≡ option_map ticket_of found → None ≡ row_at kept.rows ticket → ⊥
no_row kept queues moment word ticket None well at one none = absurd (cc)
no_row kept queues moment word ticket (Some filed) well at one none =
    let first = first_waiting_is (brought_up kept moment word) queues filed
    (up_orderly kept moment word well).by_ticket at in
    let is = same_job kept moment word filed well first in
    let own : ticket ≡ ticket_of filed = same_Some ticket (ticket_of filed) one in
    let gone = none ∙ ap (row_at kept.rows) own ∙ is.stood in
    absurd (cc)

-- the row of the first ticket stands in the tables
pub row_stands : (kept : KeptState) (queues : List (List ℕ)) (moment word ticket : ℕ) → IsWellKept kept
    → Some ticket ≡ option_map ticket_of (first_waiting (brought_up kept moment word) queues)
    → None ≡ row_at kept.rows ticket → ⊥
row_stands kept queues moment word ticket well one none =
    no_row kept queues moment word ticket (first_waiting (brought_up kept moment word) queues) well refl one none
