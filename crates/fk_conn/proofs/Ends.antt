-- How a session ends where all is answered.
use Rattle.std.proofs.Common.{◌≡◌, ◌∙◌, ℕ, ◌<◌, ◌≤◌, false, List, [], ◌++◌, length, Option, None, Some, refl, ap, sym, inl, inr, arith}
use Rattle.std.specs.Prelude.{IfSome}
use Rattle.std.proofs.lemmas.List.{append-nil}
use Rattle.fk_io.specs.declared.fault.Ended.{Ended}
use Rattle.fk_io.specs.declared.fault.Ended.TheVariants.{Closed, ReadFault, Spent}
use Rattle.fk_io.specs.Content.{Supply, Written, Took, WasGiven, IsAtEnd}
use Rattle.fk_io.specs.Faults.{Rose}
use Rattle.fk_io.proofs.Content.{took_nothing, took_both}
use Rattle.fk_model.specs.declared.entry.Entry.{Entry}
use Rattle.fk_model.specs.declared.gate.Gate.{Gate}
use Rattle.fk_model.specs.declared.item.Item.{Item}
use Rattle.fk_model.specs.Handshake.{greeting}
use Rattle.fk_model.specs.Out.{output}
use Rattle.fk_model.specs.Script.{IsOver, IsScript}
use Rattle.fk_talk.specs.declared.standing.Standing.TheVariants.{Nobody}
use Rattle.fk_talk.specs.Talks.{Talking, opened}
use Rattle.fk_talk.proofs.Advance.{script_is, not_over, stays}
use Rattle.fk_conn.specs.declared.session.Session.{Session}
use Rattle.fk_conn.specs.declared.session.TheConstants.{TAKEN_MAX}
use Rattle.fk_conn.specs.Turning.{answers_in}
use Rattle.fk_conn.specs.Session.{Wire, wire, HasEnded, HasFaults, IsAnswered, IsBehindByPiece, IsPrompt, IsSession, ReadsWell}
use Rattle.fk_conn.specs.Answering.{Done, IsBetweenReads, Wrote}
use Rattle.fk_conn.proofs.Writing.{begins_all, rose_since}

-- ---- between two reads

-- all is answered
answered : (gate : Gate) (first now : Wire) (history : List Entry) (taken : List ℕ) (items : List Item)
    (talk : Talking) → Done gate first now history taken items None talk
    → IsAnswered gate items history (output gate items (answers_in history))
answered gate first now history taken items talk done = record { asks = done.asks; replies = refl }

-- what was given is a script of what was taken
pub script_so_far : (gate : Gate) (first now : Wire) (history : List Entry) (session : Session)
    (was : IsBetweenReads gate first now history session) → IsScript gate was.taken was.items
script_so_far gate first now history session was =
    script_is gate was.taken was.items session.talk.standing session.talk.waiting
    (rw append-nil at was.done.advances) (inr was.idle)

-- which doesn't end the talk
pub goes_on : (gate : Gate) (first now : Wire) (history : List Entry) (session : Session)
    (was : IsBetweenReads gate first now history session) → ¬ IsOver gate was.taken
goes_on gate first now history session was =
    not_over gate was.taken was.items session.talk.standing session.talk.waiting
    (rw append-nil at was.done.advances) (inr was.idle) was.going

-- ---- ends

-- all was answered, and nothing more was taken or done
pub ends_answered : (gate : Gate) (ended : Ended) (first now new : Wire) (history : List Entry) (taken : List ℕ)
    (items : List Item) (talk : Talking) → Done gate first now history taken items None talk
    → length taken ≤ TAKEN_MAX → IsScript gate taken items
    → IsPrompt gate new.input taken history (output gate items (answers_in history))
    → Took now.input.left [] new.input.left → new.out.held ≡ now.out.held
    → HasFaults ended first new
    → HasEnded gate ended new taken items history (output gate items (answers_in history))
    → IsSession gate ended history first new
ends_answered gate ended first now new history taken items talk done within script prompt took held faults outcome =
    let whole = took_both first.input.left now.input.left new.input.left taken [] done.took took in (
      taken,
      items,
      output gate items (answers_in history),
      record {
        took = rw append-nil at whole;
        script = script;
        gained = rw held done.gained;
        within = within;
        prompt = prompt;
        faults = faults;
        outcome = outcome;
      },
    )

-- a read that failed tells the last piece as it was told
prompt_still : (gate : Gate) (first now new : Wire) (history : List Entry) (session : Session)
    (was : IsBetweenReads gate first now history session) → new.input.last ≡ now.input.last
    → IsPrompt gate new.input was.taken history (output gate was.items (answers_in history))
prompt_still gate first now new history session was last = go was.prompt
  where
    go : IsPrompt gate now.input was.taken history (output gate was.items (answers_in history))
        → IsPrompt gate new.input was.taken history (output gate was.items (answers_in history))
    go (inl none) = inl none
    go (inr behind) = inr (record {
      before = behind.before;
      piece = behind.piece;
      items = behind.items;
      made = behind.made;
      later = behind.later;
      all = behind.all;
      last = rw last behind.last;
      short = behind.short;
      going = behind.going;
      script = behind.script;
      turns = behind.turns;
      asks = behind.asks;
      replies = behind.replies;
    })

-- what was given is told
pub told_piece : (before after : Option (List ℕ)) (piece : List ℕ) → WasGiven before piece after
    → IfSome after (λ bytes. bytes ≡ piece)
told_piece None after piece given = rw given tt
told_piece (Some bytes) after piece given = rw given refl

-- another piece was read, of which nothing is done yet
abbrev pub behind_by_piece : (gate : Gate) (first now new : Wire) (history : List Entry) (session : Session)
    (piece : List ℕ) (was : IsBetweenReads gate first now history session) → length piece ≤ 4_096
    → WasGiven now.input.last piece new.input.last
    → IsBehindByPiece gate new.input (was.taken ++ piece) history
    (output gate was.items (answers_in history))
behind_by_piece gate first now new history session piece was short given = record {
  before = was.taken;
  piece = piece;
  items = was.items;
  made = history;
  later = [];
  all = refl;
  last = told_piece now.input.last new.input.last piece given;
  short = short;
  going = goes_on gate first now history session was;
  script = script_so_far gate first now history session was;
  turns = sym (append-nil history);
  asks = was.done.asks;
  replies = begins_all (output gate was.items (answers_in history));
}

-- no more may be taken
pub ends_spent : (gate : Gate) (first now : Wire) (history : List Entry) (session : Session) → TAKEN_MAX ≤ session.taken
    → IsBetweenReads gate first now history session → IsSession gate Spent history first now
ends_spent gate first now history session full was =
    ends_answered gate Spent first now now history was.taken was.items session.talk was.done
    (let counted = was.counted in let within = was.within in omega arith)
    (script_so_far gate first now history session was) was.prompt (took_nothing now.input.left) refl
    (was.done.reads, was.done.writes) (
      answered gate first now history was.taken was.items session.talk was.done,
      goes_on gate first now history session was,
      let counted = was.counted in let within = was.within in omega arith,
    )

-- a read failed
pub ends_at_read : (gate : Gate) (first now new : Wire) (history : List Entry) (session : Session)
    → session.taken < TAKEN_MAX → IsBetweenReads gate first now history session → new.input.left ≡ now.input.left
    → new.input.last ≡ now.input.last → Rose now.input.faults new.input.faults
    → new.out ≡ now.out → IsSession gate ReadFault history first new
ends_at_read gate first now new history session room was left last rose out =
    ends_answered gate ReadFault first now new history was.taken was.items session.talk was.done
    (let counted = was.counted in omega arith)
    (script_so_far gate first now history session was) (prompt_still gate first now new history session was last)
    (rw left (took_nothing now.input.left)) (ap (λ written. written.held) out) (
      rose_since first.input.faults now.input.faults new.input.faults was.done.reads rose,
      ap (λ written. written.faults) out ∙ was.done.writes,
    ) (
      answered gate first now history was.taken was.items session.talk was.done,
      goes_on gate first now history session was,
      let counted = was.counted in omega arith,
    )

-- what is at its end stays there where nothing was taken
at_end_still : (before after : Option (List ℕ)) → Took before [] after → IsAtEnd before → IsAtEnd after
at_end_still before None took end = tt
at_end_still before (Some left) took end = rw took at end

-- the input ended
pub ends_at_end : (gate : Gate) (first now new : Wire) (history : List Entry) (session : Session)
    → session.taken < TAKEN_MAX → IsBetweenReads gate first now history session → Took now.input.left [] new.input.left
    → WasGiven now.input.last [] new.input.last → IsAtEnd now.input.left → ReadsWell now new
    → new.out ≡ now.out → IsSession gate Closed history first new
ends_at_end gate first now new history session room was took given end well out =
    let behind = behind_by_piece gate first now new history session [] was (omega arith) given in
    ends_answered gate Closed first now new history was.taken was.items session.talk was.done
    (let counted = was.counted in omega arith)
    (script_so_far gate first now history session was) (inr (rw append-nil at behind))
    took (ap (λ written. written.held) out)
    (well ∙ was.done.reads, ap (λ written. written.faults) out ∙ was.done.writes) (
      answered gate first now history was.taken was.items session.talk was.done,
      inr (
        goes_on gate first now history session was,
        ((let counted = was.counted in omega arith), at_end_still now.input.left new.input.left took end),
      ),
    )

-- ---- the beginning

-- nothing was taken, and the greeting was written
pub begun : (gate : Gate) (input : Supply) (old new : Written) (talk later : Talking)
    → talk ≡ opened gate → Wrote old new talk.out → later ≡ record talk { out = [] }
    → IsBetweenReads gate (wire input old) (wire input new) []
    (record { talk = later; taken = 0 })
begun gate input old new talk later is wrote sent =
    let wrote : Wrote old new (greeting gate) = rw (ap (λ t. t.out) is) at wrote in
    let there : later ≡ record (opened gate) { out = [] } = rw is at sent in
    rw there (record {
      taken = [];
      items = [];
      done = record {
        took = took_nothing input.left;
        advances = stays gate Nobody [];
        asks = refl;
        gained = rw append-nil wrote.gained;
        reads = refl;
        writes = wrote.stays;
        through = refl;
        sent = refl;
        able = refl;
      };
      counted = refl;
      within = omega arith;
      prompt = inl refl;
      idle = refl;
      going = λ over. cc;
    })

pub asks_nothing : (gate : Gate) (talk later : Talking) → talk ≡ opened gate → later ≡ record talk { out = [] }
    → later.asked ≡ false
asks_nothing gate talk later is sent = ap (λ t. t.asked) sent ∙ ap (λ t. t.asked) is
