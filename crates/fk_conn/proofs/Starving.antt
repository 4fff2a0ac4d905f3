-- Memory ran out at the lines of a piece: where the piece was taken in, or where its lines were read.
use Rattle.std.proofs.Common.{◌≡◌, ◌∙◌, ℕ, ◌+◌, ◌<◌, ◌≤◌, List, [], ◌++◌, length, None, subst, inl, inr, arith, append_assoc, length-append}
use Rattle.std.specs.Prelude.{◌⊎◌, Contains}
use Rattle.std.proofs.lemmas.List.{append-nil}
use Rattle.fk_io.specs.declared.fault.Ended.TheVariants.{NoMemory}
use Rattle.fk_io.specs.Content.{Supply, Written, Took, Gained, WasGiven}
use Rattle.fk_io.proofs.Content.{took_both}
use Rattle.fk_frame.specs.Bytes.{line_feed}
use Rattle.fk_frame.specs.Lines.{lines_of}
use Rattle.fk_frame.specs.Reading.{HasLine, HasLongLine}
use Rattle.fk_frame.proofs.Scans.{line_or_none}
use Rattle.fk_model.specs.declared.entry.Entry.{Entry}
use Rattle.fk_model.specs.declared.gate.Gate.{Gate}
use Rattle.fk_model.specs.declared.item.Item.{Item}
use Rattle.fk_model.specs.Out.{asks_of, out, output}
use Rattle.fk_model.specs.Script.{IsScript}
use Rattle.fk_talk.specs.declared.standing.Standing.{Standing}
use Rattle.fk_talk.specs.declared.standing.Standing.TheVariants.{Nobody}
use Rattle.fk_talk.specs.Advance.{Advances, AreDueFrom}
use Rattle.fk_talk.specs.Talks.{Starves, Talking, fed as fed_by}
use Rattle.fk_talk.proofs.Advance.{begins_script, fed, joined}
use Rattle.fk_talk.proofs.Due.{due_total}
use Rattle.fk_conn.specs.declared.session.Session.{Session}
use Rattle.fk_conn.specs.declared.session.TheConstants.{TAKEN_MAX}
use Rattle.fk_conn.specs.Turning.{answers_in, asks_in}
use Rattle.fk_conn.specs.Session.{Wire, wire, IsSession, IsWithinPiece, ReadsWell, WritesWell, WantedMemory}
use Rattle.fk_conn.specs.Answering.{IsAnswering, IsBetweenReads}
use Rattle.fk_conn.proofs.Breaks.{ends_starved}
use Rattle.fk_conn.proofs.Ends.{behind_by_piece}
use Rattle.fk_conn.proofs.Giving.{asks_own, behind_the_greeting, output_own}
use Rattle.fk_conn.proofs.Wanted.{IsSoFar, ends_mid, wanted_at_line}
use Rattle.fk_conn.proofs.Writing.{begins_all, begins_more}

-- what was done where memory ran out: the items are answered, and these bytes wait
record IsStopped
    (gate : Gate) (first new : Wire) (history : List Entry) (taken : List ℕ) (items : List Item)
    (standing : Standing) (rest : List ℕ)
    : Type 0 where
  took : Took first.input.left taken new.input.left
  within : length taken ≤ TAKEN_MAX
  asks : asks_in history ≡ asks_of items
  gained : Gained first.out.held (output gate items (answers_in history)) new.out.held
  reads : ReadsWell first new
  writes : WritesWell first new
  late : IsWithinPiece gate new.input taken history (output gate items (answers_in history))

-- the session ended, where memory was wanted for what is left
ends_stopped : (gate : Gate) (first new : Wire) (history : List Entry) (taken : List ℕ)
    (items own : List Item) (standing : Standing) (rest : List ℕ)
    → IsStopped gate first new history taken items standing rest
    → Advances gate Nobody taken (items ++ own) standing rest
    → ((due : List Item) → AreDueFrom gate standing (lines_of rest) due
    → WantedMemory gate taken ((items ++ own) ++ due) history (output gate items (answers_in history)))
    → IsSession gate NoMemory history first new
ends_stopped gate first new history taken items own standing rest stopped advances wanted =
    let (due, are) = due_total gate standing (lines_of rest) in
    let all : (items ++ own) ++ due ≡ (items ++ []) ++ (own ++ due) =
    rw append-nil (append_assoc items own due) in
    let script = begins_script gate taken (items ++ own) due standing rest advances are in
    ends_starved gate first new history taken items None (own ++ due) (output gate items (answers_in history))
    (record {
      took = stopped.took;
      within = stopped.within;
      script = subst (IsScript gate taken) all script;
      asks = rw append-nil stopped.asks;
      whole = rw (behind_the_greeting gate (out items (answers_in history)))
          (begins_all (out items (answers_in history)));
      no_more = rw append-nil (begins_all (output gate items (answers_in history)));
      gained = stopped.gained;
      reads = stopped.reads;
    })
    stopped.late
    (subst (λ list. WantedMemory gate taken list history (output gate items (answers_in history))) all
    (wanted due are))
    stopped.writes

-- ---- where its lines were read

pub starves_at : (gate : Gate) (first now : Wire) (history : List Entry) (session : Session) (talk : Talking)
    → IsAnswering gate first now history None session → Starves session.talk talk
    → IsSession gate NoMemory history first now
starves_at gate first now history session talk was starved =
    let before = rw append-nil at was.done.advances in
    let after = subst (λ g. Advances g session.talk.standing session.talk.waiting starved.own starved.standing
    starved.rest) was.done.through starved.advances in
    let advances = joined before after in
    let written = output gate was.items (answers_in history) in
    ends_stopped gate first now history was.taken was.items starved.own starved.standing starved.rest
    (record {
      took = was.done.took;
      within = let counted = was.counted in let within = was.within in omega arith;
      asks = was.done.asks;
      gained = was.done.gained;
      reads = was.done.reads;
      writes = was.done.writes;
      late = was.late;
    })
    advances
    (λ due are. wanted_at_line gate was.taken (was.items ++ starved.own) due starved.standing starved.rest
    history written (record {
      advances = advances;
      going = starved.going;
      asks = asks_own was.items starved.own history was.done.asks starved.are_own;
      begins = rw (output_own gate was.items starved.own history was.done.asks)
          (begins_more written written (out starved.own []) (begins_all written));
      are = are;
    }) starved.left)

-- ---- where it was taken in

-- memory was wanted for a line that ends in the bytes at hand, or for those bytes
wanted_at_piece : (gate : Gate) (taken piece waiting : List ℕ) (items due : List Item) (standing : Standing)
    (history : List Entry) → 0 < length piece
    → IsSoFar gate (taken ++ piece) items due standing (waiting ++ piece) history
    (output gate items (answers_in history))
    → WantedMemory gate (taken ++ piece) (items ++ due) history (output gate items (answers_in history))
wanted_at_piece gate taken piece waiting items due standing history some so_far =
    go (line_or_none (waiting ++ piece))
  where
    go : HasLine (waiting ++ piece) ⊎ (HasLongLine (waiting ++ piece) (waiting ++ piece)
        ⊎ ¬ Contains (waiting ++ piece) line_feed)
        → WantedMemory gate (taken ++ piece) (items ++ due) history (output gate items (answers_in history))
    go (inl next) =
        wanted_at_line gate (taken ++ piece) items due standing (waiting ++ piece) history _ so_far (inl next)
    go (inr (inl long)) =
        wanted_at_line gate (taken ++ piece) items due standing (waiting ++ piece) history _ so_far (inr long)
    go (inr (inr none)) = inr (inr (ends_mid taken waiting piece some none))

-- the bytes of a piece that was read, of which nothing is done yet
module _ (gate : Gate) (first : Wire) (history : List Entry) (before after : Supply) (out : Written)
    (session : Session) (piece : List ℕ)
    (was : IsBetweenReads gate first (wire before out) history session)
    (took : Took before.left piece after.left) (given : WasGiven before.last piece after.last)
    (well : after.faults ≡ before.faults) (some : 0 < length piece) (short : length piece ≤ 4_096)
    (room : session.taken + length piece ≤ TAKEN_MAX) where
  goes : Advances gate Nobody (was.taken ++ piece) was.items session.talk.standing (session.talk.waiting ++ piece)
  goes = fed piece (rw append-nil at was.done.advances)

  took_all : Took first.input.left (was.taken ++ piece) after.left
  took_all = took_both first.input.left before.left after.left was.taken piece was.done.took took

  late : IsWithinPiece gate after (was.taken ++ piece) history
      (output gate was.items (answers_in history))
  late = (
    behind_by_piece gate first (wire before out) (wire after out) history session piece was
        short given,
    some,
  )

  pub starves_at_feed : IsSession gate NoMemory history first (wire after out)
  starves_at_feed =
      ends_stopped gate first (wire after out) history (was.taken ++ piece) was.items []
      session.talk.standing (session.talk.waiting ++ piece)
      (record {
        took = took_all;
        within = let counted = was.counted in omega (arith, room, length-append was.taken piece);
        asks = was.done.asks;
        gained = was.done.gained;
        reads = well ∙ was.done.reads;
        writes = was.done.writes;
        late = late;
      })
      (rw append-nil goes)
      (λ due are. rw append-nil (wanted_at_piece gate was.taken piece session.talk.waiting was.items due
      session.talk.standing history some (record {
        advances = goes;
        going = was.going;
        asks = was.done.asks;
        begins = begins_all (output gate was.items (answers_in history));
        are = are;
      })))

  pub reads_on : IsAnswering gate first (wire after out) history None
      (record session { talk = fed_by session.talk piece; taken = session.taken + length piece })
  reads_on = record {
    taken = was.taken ++ piece;
    items = was.items;
    done = record {
      took = took_all;
      advances = rw append-nil goes;
      asks = was.done.asks;
      gained = was.done.gained;
      reads = well ∙ was.done.reads;
      writes = was.done.writes;
      through = was.done.through;
      sent = was.done.sent;
      able = was.done.able;
    };
    counted = let counted = was.counted in omega (arith, length-append was.taken piece);
    within = room;
    late = late;
  }
