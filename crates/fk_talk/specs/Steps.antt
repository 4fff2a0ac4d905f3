-- What the steps of a talk do, line by line.
use Rattle.std.specs.Prelude.{◌≡◌, ◌≢◌, ◌⊎◌, ℕ, List, [], ◌∷◌, ◌++◌, false, Option, None, Some, option_to_list}
use Rattle.std.specs.Option.{is_some}
use Rattle.fk_frame.specs.declared.line_reader.Line.{Line}
use Rattle.fk_frame.specs.Reading.{HasLine, HasLongLine}
use Rattle.fk_model.specs.declared.ask.Ask.{Ask}
use Rattle.fk_model.specs.declared.item.Item.{Item}
use Rattle.fk_model.specs.declared.item.Item.TheVariants.{Own, Asks}
use Rattle.fk_model.specs.Out.{out}
use Rattle.fk_model.specs.Script.{too_long}
use Rattle.fk_talk.specs.declared.standing.Standing.{Standing}
use Rattle.fk_talk.specs.declared.standing.Standing.TheVariants.{Over}
use Rattle.fk_talk.specs.Advance.{Advances}
use Rattle.fk_talk.specs.Hearing.{AreHeard, standing_after}
use Rattle.fk_talk.specs.Talks.{AreOwn, Reads, Talking}

-- the ask, where the item asks for a turn
abbrev pub asked_by : Option Item → Option Ask
asked_by None = None
asked_by (Some (Own reply)) = None
asked_by (Some (Asks ask)) = Some ask

-- the item was taken: its reply is to be sent, or its ask is given
abbrev pub taken : Talking → Option Item → Talking
taken talk item =
    record talk { out = talk.out ++ out (option_to_list item) []; asked = is_some (asked_by item) }

-- a talk heard a line, which gives this ask if it asks for a turn
pub record Hears (line : Line) (ask : Option Ask) (old new : Talking) : Type 0 where
  pub item : Option Item
  pub gives : AreHeard old.gate old.standing line (option_to_list item)
  pub gives_ask : ask ≡ asked_by item
  pub is : new ≡ record (taken old item) { standing = standing_after old.gate old.standing line }

-- a line that is too long was answered, and ended the talk
abbrev pub ended_by_long_line : Talking → Talking
ended_by_long_line talk =
    record talk { out = talk.out ++ out (too_long ∷ []) []; standing = Over }

-- a talk read lines that it answered itself
pub record Goes (old new : Talking) : Type 0 where
  pub own : List Item
  pub are_own : AreOwn own
  pub reads : Reads old new own
  pub asked : new.asked ≡ false

-- it did so, and then memory ran out, where it wasn't over and a line was next, whole or too long
pub record Halts (old new : Talking) : Type 0 where
  pub own : List Item
  pub are_own : AreOwn own
  pub standing : Standing
  pub rest : List ℕ
  pub advances : Advances old.gate old.standing old.waiting own standing rest
  pub put : new.out ≡ old.out ++ out own []
  pub going : standing ≢ Over
  pub left : HasLine rest ⊎ HasLongLine rest rest
  pub gate : new.gate ≡ old.gate
  pub asked : new.asked ≡ false
