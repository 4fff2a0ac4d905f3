-- Turns one behind the other, and what one turn replies.
use Rattle.std.proofs.Common.{◌≡◌, ℕ, List, [], ◌∷◌, ◌++◌, Option, None, Some, refl, sym, ◌∙◌, arith, rules}
use Rattle.std.specs.Option.{option_map_or}
use Rattle.std.proofs.lemmas.List.{map-append}
use Rattle.std.proofs.lemmas.List.Elements.{All-nil, All-cons, All-append}
use Rattle.std.proofs.lemmas.List.Sums.{fold-append}
use Rattle.fk_io.specs.Telling.{Gave}
use Rattle.fk_io.proofs.Giving.{told_nothing, told_both}
use Rattle.fk_frame.specs.declared.reply.Reply.TheVariants.{Nil}
use Rattle.fk_frame.specs.Replies.{IsWellFormed}
use Rattle.fk_model.specs.declared.ask.Ask.{Ask}
use Rattle.fk_model.specs.declared.ask.Ask.TheVariants.{Hello, Push, PushBatch, Fetch, Ack, Fail, Beat, Signal, Info, Flush, Mutate, Tick}
use Rattle.fk_model.specs.declared.work_state.WorkState.{WorkState}
use Rattle.fk_model.specs.declared.work_state.WorkState.TheVariants.{Running, Quiet, Terminate}
use Rattle.fk_model.specs.declared.answer.Answer.{Answer}
use Rattle.fk_model.specs.declared.answer.Answer.TheVariants.{Said, NoMemory, Full, DiskFault}
use Rattle.fk_model.specs.declared.told.Told.{Told}
use Rattle.fk_model.specs.declared.entry.Entry.{Entry}
use Rattle.fk_model.specs.declared.row.Row.{Row}
use Rattle.fk_model.specs.State.{State}
use Rattle.fk_model.specs.Orders.{leased}
use Rattle.fk_model.specs.Failing.{Reason, failed}
use Rattle.fk_model.specs.Requests.{fetched}
use Rattle.fk_model.specs.Workers.{state_of}
use Rattle.fk_model.specs.Said.{handed_out, kept_and_said, ok, only_said, said, state_told, unknown_job, unknown_worker}
use Rattle.fk_model.specs.Turns.{up_to_date}
use Rattle.fk_model.specs.Answers.{reply_of}
use Rattle.fk_lives.specs.Causes.{HasDiskCause}
use Rattle.fk_lives.specs.Doubt.{IsDoubtAfter, IsSound}
use Rattle.fk_lives.specs.OnDisk.{Server, next_on_disk, moves_of_entry, IsLegalOnDisk, IsRightOnDisk, IsStepOnDisk}
use Rattle.fk_lives.proofs.AsWithout.{on_disk_goes_on}
use Rattle.fk_lives.proofs.Roads.{past_nothing, past_then}
use Rattle.fk_desk.specs.Keeping.{CallsNoDisk, StandStill, TurnGoesOn, entry_of}
use Rattle.fk_conn.specs.Turning.{Keeping, MakesTurn, Turned, TurnsGoOn, faults, moments_in, words_in}
use Rattle.fk_conn.proofs.Ways.{goes_both, goes_once, onward, turn_keeps_past}

-- ---- histories

-- no turn was made
pub turned_nothing : (now : Keeping) → Turned now now []
unfolding IsLegalOnDisk TurnsGoOn
turned_nothing now = record {
  seats = All-nil (λ entry. entry.seat ≡ 0);
  moments = told_nothing now.moments;
  words = told_nothing now.words;
  legal = tt;
  leads = refl;
  counted = refl;
  later_a = omega arith;
  later_b = omega arith;
  past = past_nothing now.disks;
  crash = (refl, refl, refl);
}

-- turns were made, and then more
pub turned_both : (old mid new : Keeping) (xs ys : List Entry) → Turned old mid xs → Turned mid new ys
    → Turned old new (xs ++ ys)
turned_both old mid new xs ys first second =
    let s = old.server in
    let on = onward s old.doubt xs old.disks.at_a old.disks.at_b mid.disks mid.doubt first.crash in
    record {
      seats = All-append (λ entry. entry.seat ≡ 0) xs ys first.seats second.seats;
      moments = rw map-append
          (told_both old.moments mid.moments new.moments (moments_in xs) (moments_in ys) first.moments second.moments);
      words = rw map-append
          (told_both old.words mid.words new.words (words_in xs) (words_in ys) first.words second.words);
      legal = (on_disk_goes_on s (faults old) xs ys).1
          (first.legal, rw (first.counted, first.leads) second.legal);
      leads = fold-append next_on_disk s xs ys ∙ rw first.leads second.leads;
      counted = fold-append (λ before (entry : Entry). entry.told.after) (faults old) xs ys
          ∙ rw first.counted second.counted;
      later_a = omega (arith, first.later_a, second.later_a);
      later_b = omega (arith, first.later_b, second.later_b);
      past = past_then old.disks mid.disks new.disks on.a on.b first.past second.past;
      crash = goes_both s old.doubt xs ys old.disks.at_a old.disks.at_b mid.disks new.disks mid.doubt new.doubt
          second.past first.crash (rw first.leads second.crash);
    }

-- ---- one turn

-- what a call tells of the turn that it made
pub turn_made : (old new : Keeping) (ask : Ask) (told : Told) (answer : Answer)
    → IsStepOnDisk old.server (entry_of 0 ask told answer) new.server
    → Gave old.moments (told.moment ∷ []) new.moments → Gave old.words (told.word ∷ []) new.words
    → told.before ≡ faults old → told.after ≡ faults new
    → HasDiskCause (answer ≡ DiskFault) old.faults_a new.faults_a old.faults_b new.faults_b
    → IsDoubtAfter answer (moves_of_entry old.server (entry_of 0 ask told answer)) old.doubt new.doubt
    → TurnGoesOn old.server.state.kept old.doubt (moves_of_entry old.server (entry_of 0 ask told answer)) old.disks
    new.disks
    → (CallsNoDisk answer (moves_of_entry old.server (entry_of 0 ask told answer)) → StandStill old.disks new.disks)
    → IsSound new.server.state.kept new.doubt (new.disks.images_a new.disks.at_a) (new.disks.images_b new.disks.at_b)
    → MakesTurn old new ask told answer
unfolding IsLegalOnDisk
turn_made old new ask told answer step moments words before after cause doubt crash still sound =
    let entry = entry_of 0 ask told answer in
    record {
      seats = All-cons (λ one. one.seat ≡ 0) entry [] refl (All-nil (λ one. one.seat ≡ 0));
      moments = moments;
      words = words;
      legal = (
        record { in_range = step.in_range; told = step.told; answer = step.answer; leads = refl },
        omega (arith, before),
        tt,
      );
      leads = sym step.leads;
      counted = after;
      later_a = cause.later_a;
      later_b = cause.later_b;
      past = turn_keeps_past old.server.state.kept old.doubt (moves_of_entry old.server entry) old.disks new.disks
          crash;
      crash = goes_once old.server old.doubt new.doubt entry old.disks new.disks crash doubt
          (rw step.leads at sound) still;
    }

-- ---- what is replied

-- what a turn says is one line where it has to be
fetched_in_form : (s : State) (moment : ℕ) (wid : List ℕ) (row : Option (ℕ × Row))
    → IsWellFormed (option_map_or (handed_out s moment wid) row (only_said s Nil)).reply
fetched_in_form s moment wid None = tt
fetched_in_form s moment wid (Some filed) = tt

failed_in_form : (s : State) (reason : Reason) (moment word : ℕ) (row : Option (ℕ × Row))
    → IsWellFormed (option_map_or (λ filed. kept_and_said s (failed reason moment word s.kept filed) ok) row
    (only_said s unknown_job)).reply
failed_in_form s reason moment word None = search rules
failed_in_form s reason moment word (Some filed) = search rules

told_in_form : (told : Option WorkState) → IsWellFormed (option_map_or state_told told unknown_worker)
told_in_form None = search rules
told_in_form (Some Running) = search rules
told_in_form (Some Quiet) = tt
told_in_form (Some Terminate) = tt

signalled_in_form : (told : Option WorkState) → IsWellFormed (option_map_or (λ own. ok) told unknown_worker)
signalled_in_form None = search rules
signalled_in_form (Some own) = search rules

said_in_form : (s : State) (ask : Ask) (moment word : ℕ) → IsWellFormed (said s ask moment word).reply
unfolding said
said_in_form s (Hello wid) moment word = search rules
said_in_form s (Push job) moment word = search rules
said_in_form s (PushBatch jobs told) moment word = tt
said_in_form s (Fetch wid queues) moment word = fetched_in_form s moment wid (fetched s wid queues)
said_in_form s (Ack jid) moment word = search rules
said_in_form s (Fail jid errtype message backtrace) moment word =
    failed_in_form s (record { errtype = errtype; message = message; backtrace = backtrace }) moment word
    (leased s.kept jid)
said_in_form s (Beat wid) moment word = told_in_form (state_of wid s.workers)
said_in_form s (Signal wid given) moment word = signalled_in_form (state_of wid s.workers)
said_in_form s Info moment word = search rules
said_in_form s Flush moment word = search rules
said_in_form s (Mutate cmd target filter) moment word = search rules
said_in_form s Tick moment word = search rules

-- so is each answer that is right
answer_in_form : (server : Server) (entry : Entry) (answer : Answer) → IsRightOnDisk server entry answer
    → IsWellFormed (reply_of answer)
answer_in_form server entry (Said reply) right =
    rw right.1
    (said_in_form (up_to_date server.state entry.told.moment entry.told.word) entry.ask entry.told.moment
    entry.told.word)
answer_in_form server entry NoMemory right = search rules
answer_in_form server entry Full right = search rules
answer_in_form server entry DiskFault right = search rules

pub made_in_form : (server after : Server) (ask : Ask) (told : Told) (answer : Answer)
    → IsStepOnDisk server (entry_of 0 ask told answer) after → IsWellFormed (reply_of answer)
made_in_form server after ask told answer step = answer_in_form server (entry_of 0 ask told answer) answer step.answer
