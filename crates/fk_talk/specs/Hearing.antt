-- What one line does to a talk that has come so far.
use Rattle.std.specs.Prelude.{◌≡◌, ℕ, List, [], codes, if◌then◌else◌, Option, None, Some, IfSome, option_to_list, unwrap_or}
use Rattle.fk_frame.specs.declared.line_reader.Line.{Line}
use Rattle.fk_job.specs.Spellings.{IsText}
use Rattle.fk_model.specs.declared.gate.Gate.{Gate}
use Rattle.fk_model.specs.declared.item.Item.{Item}
use Rattle.fk_model.specs.declared.item.Item.TheVariants.{Own, Asks}
use Rattle.fk_model.specs.Handshake.{Welcome as ItsWelcome, let_in, turned_away}
use Rattle.fk_model.specs.Range.{IsInRange}
use Rattle.fk_model.specs.Script.{AreItemsOf, ends_talk, speaker_after}
use Rattle.fk_talk.specs.declared.hello.Refusal.{Refusal}
use Rattle.fk_talk.specs.declared.hello.Refusal.TheVariants.{BadHello, BadVersion, InvalidPassword}
use Rattle.fk_talk.specs.declared.hello.Welcome.{Welcome}
use Rattle.fk_talk.specs.declared.hello.Welcome.TheVariants.{TurnedAway, LetIn}
use Rattle.fk_talk.specs.declared.line.Heard.{Heard}
use Rattle.fk_talk.specs.declared.standing.Standing.{Standing}
use Rattle.fk_talk.specs.declared.standing.Standing.TheVariants.{Nobody, Somebody, Over}

-- ---- a HELLO

-- why it is refused, in the words of an error
abbrev pub reason : Refusal → List ℕ
reason BadHello = codes "Bad HELLO"
reason BadVersion = codes "Bad version"
reason InvalidPassword = codes "Invalid password"

-- what becomes of it, as the script tells it
abbrev pub welcomed : Welcome → ItsWelcome
welcomed (TurnedAway refusal) = turned_away (reason refusal)
welcomed (LetIn wid) = let_in wid

-- who is let in has a text as its name
abbrev pub IsLetIn : Welcome → Type 0
IsLetIn (TurnedAway refusal) = Unit {0}
IsLetIn (LetIn wid) = IsText wid

-- how far a talk comes by it
abbrev pub standing_by : ItsWelcome → Standing
standing_by (turned_away text) = Over
standing_by (let_in wid) = Somebody wid

-- ---- a line

-- what a line gives to a talk that has come so far
abbrev pub AreHeard : Gate → Standing → Line → List Item → Type 0
AreHeard gate Nobody line items = AreItemsOf gate None line items
AreHeard gate (Somebody wid) line items = AreItemsOf gate (Some wid) line items
AreHeard gate Over line items = items ≡ []

-- how far a talk has come where somebody was let in, or nobody was
abbrev pub standing_of : Option (List ℕ) → Standing
standing_of None = Nobody
standing_of (Some wid) = Somebody wid

-- how far it comes by a line
abbrev pub standing_after : Gate → Standing → Line → Standing
standing_after gate Nobody line =
    if ends_talk gate None line then Over else standing_of (speaker_after gate None line)
standing_after gate (Somebody wid) line =
    if ends_talk gate (Some wid) line then Over else Somebody wid
standing_after gate Over line = Over

-- the wid of somebody is a text
abbrev pub HasTextAsWid : Standing → Type 0
HasTextAsWid Nobody = Unit {0}
HasTextAsWid (Somebody wid) = IsText wid
HasTextAsWid Over = Unit {0}

-- a turn may be made of the item's ask, if it has one
abbrev pub IsAskable : Item → Type 0
IsAskable (Own reply) = Unit {0}
IsAskable (Asks ask) = IsInRange ask

-- what was heard is what a line does to a talk that has come so far
pub record Does (gate : Gate) (standing : Standing) (line : Line) (heard : Heard) : Type 0 where
  pub items : AreHeard gate standing line (option_to_list heard.item)
  pub comes : unwrap_or heard.standing standing ≡ standing_after gate standing line

-- a turn may be made of what was heard, and who speaks has a text as its name
pub record IsHeardWell (heard : Heard) : Type 0 where
  pub item : IfSome heard.item IsAskable
  pub standing : IfSome heard.standing HasTextAsWid
