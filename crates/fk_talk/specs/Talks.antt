-- A talk, as contracts see it, and what its calls do.
use Rattle.std.specs.Prelude.{◌≡◌, ◌≢◌, ◌≤◌, ◌⊎◌, ℕ, drop, List, [], ◌∷◌, ◌++◌, length, Bool, true, false}
use Rattle.fk_frame.specs.Lines.{lines_of}
use Rattle.fk_frame.specs.Reading.{HasLine, HasLongLine}
use Rattle.fk_model.specs.declared.answer.Answer.{Answer}
use Rattle.fk_model.specs.declared.ask.Ask.{Ask as AnAsk}
use Rattle.fk_model.specs.declared.gate.Gate.{Gate}
use Rattle.fk_model.specs.declared.item.Item.{Item}
use Rattle.fk_model.specs.declared.item.Item.TheVariants.{Asks}
use Rattle.fk_model.specs.Answers.{answer_bytes}
use Rattle.fk_model.specs.Handshake.{greeting}
use Rattle.fk_model.specs.Range.{IsInRange}
use Rattle.fk_model.specs.Out.{asks_of, out, output}
use Rattle.fk_talk.specs.declared.standing.Standing.{Standing}
use Rattle.fk_talk.specs.declared.standing.Standing.TheVariants.{Nobody, Over}
use Rattle.fk_talk.specs.declared.turn.Turn.{Turn}
use Rattle.fk_talk.specs.declared.turn.Turn.TheVariants as turn
use Rattle.fk_talk.specs.Advance.{Advances}
use Rattle.fk_talk.specs.Hearing.{HasTextAsWid}

-- A talk: what opens it, how far it has come, the bytes that wait for the end of their line, the bytes
-- that are to be sent; an ask was given that has no answer yet; and memory ran out.
pub record Talking : Type 0 where
  pub gate : Gate
  pub standing : Standing
  pub waiting : List ℕ
  pub out : List ℕ
  pub asked : Bool
  pub starved : Bool

-- what holds of each talk: the hash is taken at least once, and who speaks has a text as its name
pub record IsFit (gate : Gate) (standing : Standing) : Type 0 where
  pub rounds : 1 ≤ gate.rounds
  pub wid : HasTextAsWid standing

-- a talk as it is opened: the greeting is to be sent
abbrev pub opened : Gate → Talking
opened gate = record {
  gate = gate;
  standing = Nobody;
  waiting = [];
  out = greeting gate;
  asked = false;
  starved = false;
}

-- it is fed a piece of its stream
abbrev pub fed : Talking → List ℕ → Talking
fed talk piece = record talk { waiting = talk.waiting ++ piece }

-- its ask has this answer
abbrev pub answered : Talking → Answer → Talking
answered talk answer = record talk { out = talk.out ++ answer_bytes answer; asked = false }

-- the first bytes were sent
abbrev pub without_sent : ℕ → Talking → Talking
without_sent count talk = record talk { out = drop count talk.out }

-- memory ran out
abbrev pub starving : Talking → Talking
starving talk = record talk { asked = false; starved = true }

-- these items are replies of the script's own
abbrev pub AreOwn : List Item → Type 0
AreOwn items = asks_of items ≡ []

-- the talk read the lines of these items, and what it replies of its own stands behind what is to be sent
pub record Reads (old new : Talking) (items : List Item) : Type 0 where
  pub advances : Advances old.gate old.standing old.waiting items new.standing new.waiting
  pub put : new.out ≡ old.out ++ out items []
  pub gate : new.gate ≡ old.gate
  pub starved : new.starved ≡ false

-- what comes next behind lines that gave these items: a line that asks for a turn, or the end of the talk,
-- or no line is left
abbrev pub IsNext : Turn → Talking → Talking → List Item → Type 0
IsNext (turn.Ask ask) old new own = Reads old new (own ++ Asks ask ∷ []) × (new.asked ≡ true)
IsNext turn.Need old new own =
    Reads old new own × (new.asked ≡ false) × (new.standing ≢ Over) × (lines_of new.waiting ≡ [])
IsNext turn.Over old new own = Reads old new own × (new.asked ≡ false) × (new.standing ≡ Over)

-- the talk read these lines, which it answered itself, and then what comes next
pub record Comes (next : Turn) (old new : Talking) : Type 0 where
  pub own : List Item
  pub are_own : AreOwn own
  pub is : IsNext next old new own

-- memory ran out behind lines that the talk answered itself, where it wasn't over and a line was next,
-- whole or too long
pub record Starves (old new : Talking) : Type 0 where
  pub own : List Item
  pub are_own : AreOwn own
  pub standing : Standing
  pub rest : List ℕ
  pub advances : Advances old.gate old.standing old.waiting own standing rest
  pub put : new.out ≡ old.out ++ out own []
  pub going : standing ≢ Over
  pub left : HasLine rest ⊎ HasLongLine rest rest
  pub gate : new.gate ≡ old.gate
  pub starved : new.starved ≡ true
  pub asked : new.asked ≡ false

-- a turn may be made of an ask that is given
abbrev pub HasAskInRange : Turn → Type 0
HasAskInRange (turn.Ask ask) = IsInRange ask
HasAskInRange turn.Need = Unit {0}
HasAskInRange turn.Over = Unit {0}

-- the last of the items is an ask that has no answer yet, and each ask before it has one
pub record AwaitsAnswer (items : List Item) (answers : List Answer) : Type 0 where
  pub front : List Item
  pub ask : AnAsk
  pub are : items ≡ front ++ Asks ask ∷ []
  pub each : length answers ≡ length (asks_of front)

-- These bytes were fed to a talk of this gate, which gave these items so far and stands where they lead,
-- unless memory ran out. Their asks have these answers, but for the last while it has none. What is due to
-- them is what was sent, and then what is to be sent.
pub record HasTalked
    (gate : Gate) (bytes : List ℕ) (items : List Item) (answers : List Answer) (sent : List ℕ) (talk : Talking)
    : Type 0 where
  pub through : talk.gate ≡ gate
  pub standing : Standing
  pub rest : List ℕ
  pub advances : Advances gate Nobody bytes items standing rest
  pub here : talk.starved ≡ false → (talk.standing ≡ standing) × (talk.waiting ≡ rest)
  pub settled : talk.asked ≡ false → talk.starved ≡ false → length answers ≡ length (asks_of items)
  pub waits : talk.asked ≡ true → AwaitsAnswer items answers
  pub put : sent ++ talk.out ≡ output gate items answers
