-- What a talk has said over all the pieces that it was fed, and what each of its calls adds to that.
use Rattle.std.specs.Prelude.{◌≡◌, ℕ, List, [], ◌∷◌, ◌++◌, take, false}
use Rattle.fk_model.specs.declared.answer.Answer.{Answer}
use Rattle.fk_model.specs.declared.ask.Ask.{Ask as AnAsk}
use Rattle.fk_model.specs.declared.gate.Gate.{Gate}
use Rattle.fk_model.specs.declared.item.Item.{Item}
use Rattle.fk_model.specs.Out.{asks_of}
use Rattle.fk_model.specs.Script.{IsOver, IsScript}
use Rattle.fk_talk.specs.declared.turn.Turn.{Turn}
use Rattle.fk_talk.specs.declared.turn.Turn.TheVariants as turn
use Rattle.fk_talk.specs.Talks.{AreOwn, HasTalked, Talking}

-- what the talk has said stays as it is
abbrev pub Keeps : Talking → Talking → Type 0
Keeps old new =
    (gate : Gate) (bytes : List ℕ) (items : List Item) (answers : List Answer) (sent : List ℕ)
    → HasTalked gate bytes items answers sent old → HasTalked gate bytes items answers sent new

-- a piece more was fed
abbrev pub Feeds : List ℕ → Talking → Talking → Type 0
Feeds piece old new =
    (gate : Gate) (bytes : List ℕ) (items : List Item) (answers : List Answer) (sent : List ℕ)
    → HasTalked gate bytes items answers sent old
    → HasTalked gate (bytes ++ piece) items answers sent new

-- an answer more was given
abbrev pub Answers : Answer → Talking → Talking → Type 0
Answers answer old new =
    (gate : Gate) (bytes : List ℕ) (items : List Item) (answers : List Answer) (sent : List ℕ)
    → HasTalked gate bytes items answers sent old
    → HasTalked gate bytes items (answers ++ answer ∷ []) sent new

-- so many bytes more were sent
abbrev pub Sends : ℕ → Talking → Talking → Type 0
Sends count old new =
    (gate : Gate) (bytes : List ℕ) (items : List Item) (answers : List Answer) (sent : List ℕ)
    → HasTalked gate bytes items answers sent old
    → HasTalked gate bytes items answers (sent ++ take count old.out) new

-- the asks that come of what comes next: one, or none
abbrev pub asks_in : Turn → List AnAsk
asks_in (turn.Ask ask) = ask ∷ []
asks_in turn.Need = []
asks_in turn.Over = []

-- The items are the script of the bytes, which doesn't end the talk where more are needed, and ends it where
-- it is over; or they are the script up to an ask.
abbrev pub AreScriptTo : Turn → Gate → List ℕ → List Item → Type 0
AreScriptTo (turn.Ask ask) gate bytes items = (others : List Item) × IsScript gate bytes (items ++ others)
AreScriptTo turn.Need gate bytes items = IsScript gate bytes items × ¬ IsOver gate bytes
AreScriptTo turn.Over gate bytes items = IsScript gate bytes items × IsOver gate bytes

-- the talk gave more items, whose ask comes next, if there is one
pub record GivesMore
    (next : Turn) (gate : Gate) (bytes : List ℕ) (items : List Item) (answers : List Answer) (sent : List ℕ)
    (old new : Talking)
    : Type 0 where
  pub more : List Item
  pub asks : asks_of more ≡ asks_in next
  pub talked : HasTalked gate bytes (items ++ more) answers sent new
  pub script : old.starved ≡ false → AreScriptTo next gate bytes (items ++ more)

abbrev pub Gives : Turn → Talking → Talking → Type 0
Gives next old new =
    (gate : Gate) (bytes : List ℕ) (items : List Item) (answers : List Answer) (sent : List ℕ)
    → HasTalked gate bytes items answers sent old → GivesMore next gate bytes items answers sent old new

-- the talk gave more items of its own, before memory ran out
abbrev pub BreaksOff : Talking → Talking → Type 0
BreaksOff old new =
    (gate : Gate) (bytes : List ℕ) (items : List Item) (answers : List Answer) (sent : List ℕ)
    → HasTalked gate bytes items answers sent old
    → (more : List Item) × AreOwn more × HasTalked gate bytes (items ++ more) answers sent new
