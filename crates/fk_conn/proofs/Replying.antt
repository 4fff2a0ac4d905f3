-- The answer of a turn is sent, or is not.
use Rattle.std.proofs.Common.{◌≡◌, ◌∙◌, ℕ, List, [], ◌∷◌, ◌++◌, None, Some, refl, ap, inl, inr, arith}
use Rattle.std.specs.Prelude.{Result, Ok, Err, MatchResult, IfErr, OnOk, OnErr}
use Rattle.std.proofs.lemmas.List.{append-nil}
use Rattle.fk_io.specs.declared.fault.Ended.{Ended}
use Rattle.fk_io.specs.declared.fault.Ended.TheVariants.{WriteFault, NoMemory}
use Rattle.fk_io.specs.Content.{Supply, Written, Gained}
use Rattle.fk_io.proofs.Content.{gained_both}
use Rattle.fk_model.specs.declared.answer.Answer.{Answer}
use Rattle.fk_model.specs.declared.ask.Ask.{Ask}
use Rattle.fk_model.specs.declared.entry.Entry.{Entry}
use Rattle.fk_model.specs.declared.told.Told.{Told}
use Rattle.fk_model.specs.declared.gate.Gate.{Gate}
use Rattle.fk_model.specs.declared.item.Item.{Item}
use Rattle.fk_model.specs.declared.item.Item.TheVariants.{Asks}
use Rattle.fk_model.specs.Answers.{answer_bytes, reply_of}
use Rattle.fk_model.specs.Out.{asks_of, out, output}
use Rattle.fk_model.proofs.Outs.{out-asks}
use Rattle.fk_talk.specs.Talks.{Talking, answered}
use Rattle.fk_talk.proofs.Due.{script_begun}
use Rattle.fk_desk.specs.Keeping.{entry_of}
use Rattle.fk_conn.specs.declared.session.Session.{Session}
use Rattle.fk_conn.specs.Turning.{answers_in, asks_in}
use Rattle.fk_conn.specs.Session.{Wire, wire, Begins, IsPartOf, IsSession, IsWithinPiece}
use Rattle.fk_conn.specs.Answering.{BreaksOff, IsAnswering, Wrote}
use Rattle.fk_conn.proofs.Breaks.{IsCut, ends_broken, ends_starved}
use Rattle.fk_conn.proofs.Giving.{asks_both, behind_it, out_still, output_both, part_of_due}
use Rattle.fk_conn.proofs.Hearing.{late_more}
use Rattle.fk_conn.proofs.Wanted.{cut_unanswered}
use Rattle.fk_conn.proofs.Writing.{begins_behind, part_behind, part_begins, rose_since, some_bytes}

module _ (gate : Gate) (first : Wire) (input : Supply) (made : List Entry) (old new : Written)
    (session : Session) (ask : Ask) (told : Told) (answer : Answer)
    (was : IsAnswering gate first (wire input old) made (Some ask) session) where
  abbrev entry : Entry
  entry = entry_of 0 ask told answer

  abbrev history : List Entry
  history = made ++ entry ∷ []

  abbrev written : List ℕ
  written = output gate was.items (answers_in made)

  -- all that is due with the answer
  due : output gate (was.items ++ Asks ask ∷ []) (answers_in history) ≡ written ++ answer_bytes answer
  due = output_both gate was.items (Asks ask ∷ []) made (entry ∷ []) was.done.asks
      ∙ ap (λ bytes. written ++ bytes) (out-asks ask answer)

  asks : asks_in history ≡ asks_of (was.items ++ Asks ask ∷ [])
  asks = asks_both was.items (Asks ask ∷ []) made (entry ∷ []) was.done.asks refl

  late : (more : List ℕ) → IsWithinPiece gate input was.taken history (written ++ more)
  late more = late_more gate input was.taken made (entry ∷ []) written more was.late

  -- the session stopped within the answer
  cut : (part : List ℕ) → Begins part (answer_bytes answer) → Gained first.out.held (written ++ part) new.held
      → (others : List Item) × IsCut gate first (wire input new) history was.taken was.items (Some (Asks ask))
      others (written ++ part)
  cut part begins gained =
      let (others, script) = script_begun gate was.taken (was.items ++ Asks ask ∷ []) session.talk.standing
      session.talk.waiting was.done.advances in (
        others,
        record {
          took = was.done.took;
          within = let counted = was.counted in let within = was.within in omega arith;
          script = script;
          asks = asks;
          whole = rw (
            behind_it gate (out was.items (answers_in made)) part,
            out_still was.items made (entry ∷ []) was.done.asks,
          )
              (part, refl);
          no_more = rw due (begins_behind written part (answer_bytes answer) begins);
          gained = gained;
          reads = was.done.reads;
        },
      )

  is_part : (part : List ℕ) (others : List Item) → IsPartOf part (answer_bytes answer)
      → IsPartOf (written ++ part) (output gate ((was.items ++ Asks ask ∷ []) ++ others) (answers_in history))
  is_part part others is =
      part_of_due gate (was.items ++ Asks ask ∷ []) others history (written ++ part)
      (rw due (part_behind written part (answer_bytes answer) is))

  -- a write of it failed
  pub breaks_at_answer : BreaksOff old new (answer_bytes answer)
      → IsSession gate WriteFault history first (wire input new)
  breaks_at_answer breaks =
      let broke = breaks.broke in
      let (others, stopped) = cut breaks.part (part_begins breaks.part (answer_bytes answer) broke.is_part)
      (gained_both first.out.held old.held new.held _ _ was.done.gained broke.gained) in
      ends_broken gate first (wire input new) history was.taken was.items (Some (Asks ask)) others
      (written ++ breaks.part) stopped (inr (late breaks.part).0) (is_part breaks.part others broke.is_part)
      (rose_since first.out.faults old.faults new.faults was.done.writes broke.rose)

  -- memory ran out before it was put out
  pub starves_at_answer : new ≡ old → IsSession gate NoMemory history first (wire input new)
  starves_at_answer same =
      let (others, stopped) = cut [] (answer_bytes answer, refl) (rw (append-nil, same) was.done.gained) in
      ends_starved gate first (wire input new) history was.taken was.items (Some (Asks ask)) others
      (written ++ []) stopped (late [])
      (inl (cut_unanswered gate ((was.items ++ Asks ask ∷ []) ++ others) history (written ++ [])
      (is_part [] others (answer_bytes answer, some_bytes (reply_of answer), refl))))
      (rw same was.done.writes)

  -- it was sent
  pub replied : Wrote old new (answer_bytes answer)
      → IsAnswering gate first (wire input new) history None
      (record session { talk = record (answered session.talk answer) { out = [] } })
  replied wrote = record {
    taken = was.taken;
    items = was.items ++ Asks ask ∷ [];
    done = record {
      took = was.done.took;
      advances = rw append-nil was.done.advances;
      asks = asks;
      gained = rw due (gained_both first.out.held old.held new.held _ _ was.done.gained wrote.gained);
      reads = was.done.reads;
      writes = wrote.stays ∙ was.done.writes;
      through = was.done.through;
      sent = refl;
      able = was.done.able;
    };
    counted = was.counted;
    within = was.within;
    late = rw due (late (answer_bytes answer));
  }

  -- what was to be sent is the answer
  to_send : (talk : Talking) → talk ≡ answered session.talk answer → talk.out ≡ answer_bytes answer
  to_send talk is = ap (λ t. t.out) is ∙ ap (λ bytes. bytes ++ answer_bytes answer) was.done.sent

  -- it was sent, or wasn't
  pub answer_sent : (r : Result (Unit {0}) Ended) (talk later : Talking) → talk ≡ answered session.talk answer
      → OnOk r (Wrote old new talk.out) → OnOk r (later ≡ record talk { out = [] })
      → IfErr r (λ ended. ended ≡ WriteFault) → OnErr r (BreaksOff old new talk.out)
      → MatchResult r (λ _. IsAnswering gate first (wire input new) history None (record session { talk = later }))
      (λ ended. IsSession gate ended history first (wire input new))
  answer_sent (Ok x) talk later is wrote sent fault broke =
      rw (sent, is) (replied (rw (to_send talk is) at wrote))
  answer_sent (Err ended) talk later is wrote sent fault broke =
      rw fault (breaks_at_answer (rw (to_send talk is) at broke))
