-- A session hears what comes next: what it does then.
use Rattle.std.proofs.Common.{◌≡◌, ◌∙◌, ℕ, ◌≤◌, Bool, true, false, List, [], ◌∷◌, ◌++◌, length, Option, None, Some, Result, Ok, refl, sym, ap, subst, inl, inr, arith, append_assoc, length-append}
use Rattle.std.specs.Prelude.{option_to_list}
use Rattle.std.proofs.lemmas.List.{append-nil}
use Rattle.fk_io.specs.declared.fault.Ended.TheVariants.{Closed, WriteFault}
use Rattle.fk_io.specs.Content.{Supply, Written, Gained}
use Rattle.fk_io.proofs.Content.{gained_both, took_nothing}
use Rattle.fk_frame.specs.declared.line_reader.Line.{Line}
use Rattle.fk_frame.specs.Lines.{lines_of}
use Rattle.fk_model.specs.declared.ask.Ask.{Ask}
use Rattle.fk_model.specs.declared.entry.Entry.{Entry}
use Rattle.fk_model.specs.declared.gate.Gate.{Gate}
use Rattle.fk_model.specs.declared.item.Item.{Item}
use Rattle.fk_model.specs.declared.item.Item.TheVariants.{Asks}
use Rattle.fk_model.specs.Out.{asks_of, out, output}
use Rattle.fk_model.specs.Script.{IsScript, talk_from}
use Rattle.fk_model.proofs.OneScript.{script_one}
use Rattle.fk_model.proofs.Outs.{out-front}
use Rattle.fk_talk.specs.declared.standing.Standing.{Standing}
use Rattle.fk_talk.specs.declared.standing.Standing.TheVariants.{Nobody, Somebody, Over}
use Rattle.fk_talk.specs.declared.turn.Turn.{Turn}
use Rattle.fk_talk.specs.declared.turn.Turn.TheVariants as turn
use Rattle.fk_talk.specs.Advance.{Advances, AreDueFrom}
use Rattle.fk_talk.specs.Talks.{AreOwn, Comes, IsNext, Reads, Talking}
use Rattle.fk_talk.proofs.Advance.{joined, over_is, script_is}
use Rattle.fk_talk.proofs.Due.{script_begun}
use Rattle.fk_conn.specs.declared.session.Session.{Session}
use Rattle.fk_conn.specs.Turning.{answers_in, asks_in}
use Rattle.fk_conn.specs.Session.{Wire, wire, Begins, IsPartOf, IsSession, IsWithinPiece, behind_greeting}
use Rattle.fk_conn.specs.Answering.{BreaksOff, Done, IsAnswering, IsHeard, TakesLine, Wrote, owed}
use Rattle.fk_conn.proofs.Breaks.{ends_broken}
use Rattle.fk_conn.specs.declared.session.TheConstants.{TAKEN_MAX}
use Rattle.fk_conn.proofs.Cut.{CutAt, own_cut}
use Rattle.fk_conn.proofs.Ends.{ends_answered}
use Rattle.fk_conn.proofs.Giving.{asks_own, behind_it, one_each, output_own, part_of_due}
use Rattle.fk_conn.proofs.Writing.{begins_behind, begins_more, part_behind, rose_since}

-- ---- what is due

-- nothing is due to an ask that has no answer yet
pub out_owed : (own : List Item) (ask : Option Ask) → asks_of own ≡ [] → out (own ++ owed ask) [] ≡ out own []
out_owed own None none = ap (λ items. out items []) (append-nil own)
out_owed own (Some ask) none =
    out-front own (Asks ask ∷ []) [] (sym (ap length none)) ∙ append-nil (out own [])

-- what was written is behind by the last piece, also where more is written, and more turns are made
pub late_more : (gate : Gate) (input : Supply) (taken : List ℕ) (history later : List Entry) (written more : List ℕ)
    → IsWithinPiece gate input taken history written
    → IsWithinPiece gate input taken (history ++ later) (written ++ more)
late_more gate input taken history later written more (behind, some) = (
  record {
    before = behind.before;
    piece = behind.piece;
    items = behind.items;
    made = behind.made;
    later = behind.later ++ later;
    all = behind.all;
    last = behind.last;
    short = behind.short;
    going = behind.going;
    script = behind.script;
    turns = ap (λ entries. entries ++ later) behind.turns ∙ append_assoc behind.made behind.later later;
    asks = behind.asks;
    replies = begins_more (output gate behind.items (answers_in behind.made)) written more behind.replies;
  },
  some,
)

late_written : (gate : Gate) (input : Supply) (taken : List ℕ) (history : List Entry) (written more : List ℕ)
    → IsWithinPiece gate input taken history written → IsWithinPiece gate input taken history (written ++ more)
late_written gate input taken history written more late =
    subst (λ entries. IsWithinPiece gate input taken entries (written ++ more)) (append-nil history)
    (late_more gate input taken history [] written more late)

-- ---- where replies of the script's own break off

-- all items, by where the replies to some of them end
all_items : (items own waiting due : List Item) {part : List ℕ} (cut : CutAt own part)
    → ((items ++ own) ++ waiting) ++ due
    ≡ ((items ++ cut.front) ++ option_to_list cut.begun) ++ (cut.behind ++ (waiting ++ due))
all_items items own waiting due cut = rw cut.are_all (simp append_assoc)

-- how far what was written goes then
record EndsAtCut
    (gate : Gate) (items : List Item) (history : List Entry) (front : List Item) (begun : Option Item)
    (part : List ℕ) : Type 0 where
  asks : asks_in history ≡ asks_of ((items ++ front) ++ option_to_list begun)
  whole : Begins (out (items ++ front) (answers_in history))
      (behind_greeting gate (output gate items (answers_in history) ++ part))
  no_more : Begins (output gate items (answers_in history) ++ part)
      (output gate ((items ++ front) ++ option_to_list begun) (answers_in history))

ends_at_cut : (gate : Gate) (items : List Item) (history : List Entry) → asks_in history ≡ asks_of items
    → (own : List Item) {part : List ℕ} (cut : CutAt own part) (others : List Item)
    → EndsAtCut gate items history cut.front cut.begun part
ends_at_cut gate items history asks own {part = part} cut others =
    let due = append_assoc items cut.front (option_to_list cut.begun) in
    record {
      asks = rw due (asks_own items (cut.front ++ option_to_list cut.begun) history asks cut.none);
      whole = rw (
        behind_it gate (out items (answers_in history)) part,
        out-front items cut.front (answers_in history) (one_each items history asks),
      )
          (begins_behind (out items (answers_in history)) (out cut.front []) part cut.whole);
      no_more = rw (due, output_own gate items (cut.front ++ option_to_list cut.begun) history asks)
          (begins_behind (output gate items (answers_in history)) part _ cut.no_more);
    }

-- ---- a talk that read lines

module _ (gate : Gate) (first : Wire) (input : Supply) (old new : Written)
    (history : List Entry) (taken : List ℕ) (items : List Item) (talk next : Talking) (own : List Item)
    (ask : Option Ask) (done : Done gate first (wire input old) history taken items None talk)
    (are_own : AreOwn own) (reads : Reads talk next (own ++ owed ask)) where
  -- what was to be sent
  sends : next.out ≡ out own []
  sends = reads.put ∙ ap (λ bytes. bytes ++ out (own ++ owed ask) []) done.sent ∙ out_owed own ask are_own

  goes : Advances gate Nobody taken ((items ++ own) ++ owed ask) next.standing next.waiting
  goes =
      let before = rw append-nil at done.advances in
      let after = subst (λ g. Advances g talk.standing talk.waiting (own ++ owed ask) next.standing next.waiting)
      done.through reads.advances in
      subst (λ all. Advances gate Nobody taken all next.standing next.waiting)
      (sym (append_assoc items own (owed ask))) (joined before after)

  -- it was sent
  pub heard : Wrote old new next.out
      → Done gate first (wire input new) history taken (items ++ own) ask (record next { out = [] })
  heard wrote =
      let gained : Gained old.held (out own []) new.held = rw sends at wrote.gained in
      record {
        took = done.took;
        advances = goes;
        asks = asks_own items own history done.asks are_own;
        gained = rw (output_own gate items own history done.asks)
            (gained_both first.out.held old.held new.held _ _ done.gained gained);
        reads = done.reads;
        writes = wrote.stays ∙ done.writes;
        through = reads.gate ∙ done.through;
        sent = refl;
        able = reads.starved;
      }

  -- a write of it failed
  pub breaks_at : (count : length taken ≤ TAKEN_MAX)
      → IsWithinPiece gate input taken history (output gate items (answers_in history))
      → BreaksOff old new next.out → IsSession gate WriteFault history first (wire input new)
  breaks_at within late breaks =
      let part = breaks.part in
      let broke = breaks.broke in
      let is_part = rw sends at broke.is_part in
      let cut = own_cut own part are_own is_part in
      let (due, script) = script_begun gate taken ((items ++ own) ++ owed ask) next.standing next.waiting goes in
      let whole = ends_at_cut gate items history done.asks own cut (owed ask ++ due) in
      let all = all_items items own (owed ask) due cut in
      ends_broken gate first (wire input new) history taken (items ++ cut.front) cut.begun
      (cut.behind ++ (owed ask ++ due)) (output gate items (answers_in history) ++ part) (record {
        took = done.took;
        within = within;
        script = subst (IsScript gate taken) all script;
        asks = whole.asks;
        whole = whole.whole;
        no_more = whole.no_more;
        gained = gained_both first.out.held old.held new.held _ _ done.gained broke.gained;
        reads = done.reads;
      })
      (inr (late_written gate input taken history _ part late).0)
      (subst (λ list. IsPartOf (output gate items (answers_in history) ++ part)
      (output gate list (answers_in history))) (sym (append_assoc (items ++ own) (owed ask) due) ∙ all)
      (part_of_due gate (items ++ own) (owed ask ++ due) history _
      (rw (output_own gate items own history done.asks) (part_behind _ part (out own []) is_part))))
      (rose_since first.out.faults old.faults new.faults done.writes broke.rose)

-- ---- by what comes next

-- the ask that comes next, if one does
abbrev ask_of : Turn → Option Ask
ask_of (turn.Ask ask) = Some ask
ask_of turn.Need = None
ask_of turn.Over = None

reads_of : (next : Turn) (old new : Talking) (own : List Item) → IsNext next old new own
    → Reads old new (own ++ owed (ask_of next))
reads_of (turn.Ask ask) old new own is = is.0
reads_of turn.Need old new own is = rw append-nil is.0
reads_of turn.Over old new own is = rw append-nil is.0

-- what is sent, and what isn't
abbrev with_talk : Session → Talking → Session
with_talk session talk = record session { talk = talk }

pub hears : (next : Turn) (gate : Gate) (first : Wire) (input : Supply) (history : List Entry) (old new : Written)
    (session : Session) (talk : Talking) → IsAnswering gate first (wire input old) history None session
    → Comes next session.talk talk → Wrote old new talk.out
    → IsHeard next gate first (wire input new) history (with_talk session (record talk { out = [] }))
hears next gate first input history old new session talk was comes wrote = go next comes.is done
  where
    done : Done gate first (wire input new) history was.taken (was.items ++ comes.own) (ask_of next)
        (record talk { out = [] })
    done = heard gate first input old new history was.taken was.items session.talk talk comes.own
        (ask_of next) was.done comes.are_own (reads_of next session.talk talk comes.own comes.is) wrote

    late : IsWithinPiece gate input was.taken history
        (output gate (was.items ++ comes.own) (answers_in history))
    late = rw (output_own gate was.items comes.own history was.done.asks)
        (late_written gate input was.taken history _ (out comes.own []) was.late)

    go : (next : Turn) → IsNext next session.talk talk comes.own
        → Done gate first (wire input new) history was.taken (was.items ++ comes.own) (ask_of next)
        (record talk { out = [] })
        → IsHeard next gate first (wire input new) history (with_talk session (record talk { out = [] }))
    go (turn.Ask ask) is done = record {
      taken = was.taken;
      items = was.items ++ comes.own;
      done = done;
      counted = was.counted;
      within = was.within;
      late = late;
    }
    go turn.Need is done = record {
      taken = was.taken;
      items = was.items ++ comes.own;
      done = done;
      counted = was.counted;
      within = was.within;
      prompt = inr late.0;
      idle = is.3;
      going = is.2;
    }
    go turn.Over is done =
        let advances = rw append-nil at done.advances in
        ends_answered gate Closed first (wire input new) (wire input new) history was.taken
        (was.items ++ comes.own) (record talk { out = [] }) done
        (let counted = was.counted in let within = was.within in omega arith)
        (script_is gate was.taken (was.items ++ comes.own) talk.standing talk.waiting advances (inl is.2))
        (inr late.0) (took_nothing input.left) refl (done.reads, done.writes) (
          record { asks = done.asks; replies = refl },
          inl (over_is gate was.taken (was.items ++ comes.own) talk.waiting (rw is.2 at advances)),
        )

pub breaks : (next : Turn) (gate : Gate) (first : Wire) (input : Supply) (history : List Entry) (old new : Written)
    (session : Session) (talk : Talking) → IsAnswering gate first (wire input old) history None session
    → Comes next session.talk talk → BreaksOff old new talk.out
    → IsSession gate WriteFault history first (wire input new)
breaks next gate first input history old new session talk was comes broke =
    breaks_at gate first input old new history was.taken was.items session.talk talk comes.own
    (ask_of next) was.done comes.are_own (reads_of next session.talk talk comes.own comes.is)
    (let counted = was.counted in let within = was.within in omega arith) was.late broke

-- ---- less is left

-- what is due to a talk is one list of items
due_one : (gate : Gate) (standing : Standing) (lines : List Line) (one other : List Item)
    → AreDueFrom gate standing lines one → AreDueFrom gate standing lines other → one ≡ other
due_one gate Nobody lines one other is also = script_one gate None (talk_from gate None lines) one other is also
due_one gate (Somebody wid) lines one other is also =
    script_one gate (Some wid) (talk_from gate (Some wid) lines) one other is also
due_one gate Over lines one other is also = is ∙ sym also

takes_items : (gate : Gate) (old new : Talking) (items before after : List Item)
    → Advances gate old.standing old.waiting items new.standing new.waiting
    → AreDueFrom gate old.standing (lines_of old.waiting) before
    → AreDueFrom gate new.standing (lines_of new.waiting) after → before ≡ items ++ after
takes_items gate old new items before after advances are due =
    let due = subst (λ bytes. AreDueFrom gate new.standing (lines_of bytes) after)
    (sym (append-nil new.waiting)) due in
    due_one gate old.standing (lines_of old.waiting) before (items ++ after) are
    (subst (λ bytes. AreDueFrom gate old.standing (lines_of bytes) (items ++ after)) (append-nil old.waiting)
    (advances.gives [] after due))

-- an ask was one of the items that were due
pub takes_line : (next : Turn) (old new : Talking) → Comes next old new → TakesLine next old (record new { out = [] })
takes_line turn.Need old new comes = tt
takes_line turn.Over old new comes = tt
takes_line (turn.Ask ask) old new comes = λ before after are due.
    let items = comes.own ++ Asks ask ∷ [] in
    let is = takes_items old.gate old new items before after comes.is.0.advances are
    (subst (λ gate. AreDueFrom gate new.standing (lines_of new.waiting) after) comes.is.0.gate due) in
    omega (arith, ap length is, length-append items after, length-append comes.own (Asks ask ∷ []))

-- also where it isn't known that memory hadn't run out before
pub takes_line_still : {E : Type 0} (next : Turn) (old new : Talking) (starved : Bool) → old.starved ≡ starved
    → (old.starved ≡ false → Comes next old new)
    → (old.starved ≡ true → (◌≡◌ {A = Result Turn E} (Ok next) (Ok turn.Over)) × (new ≡ old))
    → TakesLine next old (record new { out = [] })
takes_line_still next old new false is comes over = takes_line next old new (comes is)
takes_line_still (turn.Ask ask) old new true is comes over = let same = (over is).0 in cc
takes_line_still turn.Need old new true is comes over = tt
takes_line_still turn.Over old new true is comes over = tt
