-- What a line asks for, as the script of a stream has it.
use Rattle.std.specs.Prelude.{List, [], ◌∷◌}
use Rattle.fk_frame.specs.Replies.{IsWellFormed}
use Rattle.fk_model.specs.declared.item.Item.{Item}
use Rattle.fk_model.specs.declared.item.Item.TheVariants.{Own, Asks}
use Rattle.fk_model.specs.Range.{HasJsonTexts, IsInRange}
use Rattle.fk_command.specs.declared.command.Command.{Command}
use Rattle.fk_command.specs.declared.command.Command.TheVariants.{Ask, End, Wrong}

-- what the line gives: nothing where the client ends the talk
abbrev pub items_of : Command → List Item
items_of (Ask ask) = Asks ask ∷ []
items_of End = []
items_of (Wrong reply) = Own reply ∷ []

-- a turn may be made of an ask, and a refusal is one line
abbrev pub IsAnswerable : Command → Type 0
IsAnswerable (Ask ask) = IsInRange ask
IsAnswerable End = Unit {0}
IsAnswerable (Wrong reply) = IsWellFormed reply

-- what serde_json decoded or wrote for an ask is a text, and a refusal is one line
abbrev pub IsInForm : Item → Type 0
IsInForm (Own reply) = IsWellFormed reply
IsInForm (Asks ask) = HasJsonTexts ask
