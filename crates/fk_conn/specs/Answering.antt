-- Bytes that are written, and how far a session has come at the lines of a piece.
use Rattle.std.specs.Prelude.{◌≡◌, ◌≢◌, ◌≤◌, ◌<◌, ℕ, List, [], ◌∷◌, ◌++◌, length, Bool, true, false}
use Rattle.std.specs.Prelude.{Option, None, Some}
use Rattle.fk_io.specs.declared.fault.Ended.TheVariants.{Closed}
use Rattle.fk_io.specs.Content.{Written, Took, Gained}
use Rattle.fk_io.specs.Faults.{Rose}
use Rattle.fk_frame.specs.Lines.{lines_of}
use Rattle.fk_model.specs.declared.ask.Ask.{Ask}
use Rattle.fk_model.specs.declared.entry.Entry.{Entry}
use Rattle.fk_model.specs.declared.gate.Gate.{Gate}
use Rattle.fk_model.specs.declared.item.Item.{Item}
use Rattle.fk_model.specs.declared.item.Item.TheVariants.{Asks}
use Rattle.fk_model.specs.Out.{asks_of, output}
use Rattle.fk_talk.specs.declared.standing.Standing.TheVariants.{Nobody, Over}
use Rattle.fk_talk.specs.declared.turn.Turn.{Turn}
use Rattle.fk_talk.specs.declared.turn.Turn.TheVariants as turn
use Rattle.fk_talk.specs.Advance.{Advances, AreDueFrom}
use Rattle.fk_talk.specs.Talks.{Talking}
use Rattle.fk_conn.specs.declared.session.Session.{Session}
use Rattle.fk_conn.specs.declared.session.TheConstants.{TAKEN_MAX}
use Rattle.fk_conn.specs.Turning.{answers_in, asks_in}
use Rattle.fk_conn.specs.Session.{Wire, IsPartOf, IsPrompt, IsSession, IsWithinPiece}
use Rattle.fk_conn.specs.Session.{ReadsWell, WritesWell}

-- ---- bytes

-- these bytes were written, all of them
pub record Wrote (old new : Written) (bytes : List ℕ) : Type 0 where
  pub gained : Gained old.held bytes new.held
  pub stays : new.faults ≡ old.faults

-- a write of these bytes failed behind this part of them
pub record Broke (old new : Written) (bytes part : List ℕ) : Type 0 where
  pub is_part : IsPartOf part bytes
  pub gained : Gained old.held part new.held
  pub rose : Rose old.faults new.faults

-- and that part is one of them
pub record BreaksOff (old new : Written) (bytes : List ℕ) : Type 0 where
  pub part : List ℕ
  pub broke : Broke old new bytes part

-- ---- lines

-- the item of an ask that has no answer yet
abbrev pub owed : Option Ask → List Item
owed None = []
owed (Some ask) = Asks ask ∷ []

-- These bytes were taken, and gave these items, which are answered, and perhaps an ask that has no answer
-- yet. All that is due to them was written, and nothing waits to be.
pub record Done
    (gate : Gate) (first now : Wire) (history : List Entry) (taken : List ℕ) (items : List Item)
    (ask : Option Ask) (talk : Talking)
    : Type 0 where
  pub took : Took first.input.left taken now.input.left
  pub advances : Advances gate Nobody taken (items ++ owed ask) talk.standing talk.waiting
  pub asks : asks_in history ≡ asks_of items
  pub gained : Gained first.out.held (output gate items (answers_in history)) now.out.held
  pub reads : ReadsWell first now
  pub writes : WritesWell first now
  pub through : talk.gate ≡ gate
  pub sent : talk.out ≡ []
  pub able : talk.starved ≡ false

-- the lines of a piece are answered so far, and perhaps an ask has no answer yet
pub record IsAnswering
    (gate : Gate) (first now : Wire) (history : List Entry) (ask : Option Ask) (session : Session)
    : Type 0 where
  pub taken : List ℕ
  pub items : List Item
  pub done : Done gate first now history taken items ask session.talk
  pub counted : length taken ≡ session.taken
  pub within : session.taken ≤ TAKEN_MAX
  pub late :
      IsWithinPiece gate now.input taken history (output gate items (answers_in history))

-- all lines of the bytes that were taken are answered, and the talk goes on
pub record IsBetweenReads (gate : Gate) (first now : Wire) (history : List Entry) (session : Session) :
    Type 0 where
  pub taken : List ℕ
  pub items : List Item
  pub done : Done gate first now history taken items None session.talk
  pub counted : length taken ≡ session.taken
  pub within : session.taken ≤ TAKEN_MAX
  pub prompt : IsPrompt gate now.input taken history (output gate items (answers_in history))
  pub idle : lines_of session.talk.waiting ≡ []
  pub going : session.talk.standing ≢ Over

-- where a session stands behind what came next
abbrev pub IsHeard : Turn → Gate → Wire → Wire → List Entry → Session → Type 0
IsHeard (turn.Ask ask) gate first now history session = IsAnswering gate first now history (Some ask) session
IsHeard turn.Need gate first now history session = IsBetweenReads gate first now history session
IsHeard turn.Over gate first now history session = IsSession gate Closed history first now

-- it is an ask
abbrev pub is_ask : Turn → Bool
is_ask (turn.Ask ask) = true
is_ask turn.Need = false
is_ask turn.Over = false

-- less is due to what waits than was
abbrev pub IsFewer : Talking → Talking → Type 0
IsFewer old new = (before after : List Item)
    → AreDueFrom old.gate old.standing (lines_of old.waiting) before
    → AreDueFrom new.gate new.standing (lines_of new.waiting) after → length after < length before

-- an ask has taken a line
abbrev pub TakesLine : Turn → Talking → Talking → Type 0
TakesLine (turn.Ask ask) old new = IsFewer old new
TakesLine turn.Need old new = Unit {0}
TakesLine turn.Over old new = Unit {0}

-- the talk has come as far as it had
pub record StaysThere (old new : Talking) : Type 0 where
  pub gate : new.gate ≡ old.gate
  pub standing : new.standing ≡ old.standing
  pub waiting : new.waiting ≡ old.waiting
