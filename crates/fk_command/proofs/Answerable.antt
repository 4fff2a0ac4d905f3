-- What a line asks for can be answered.
use Rattle.std.proofs.Common.{◌≡◌, ℕ, ◌≤◌, List, [], length, Option, None, Some, sym, subst}
use Rattle.std.specs.Prelude.{All, IfSome, option_to_list}
use Rattle.std.proofs.lemmas.List.Elements.{All-cons, All-head, All-nil}
use Rattle.fk_frame.specs.Lines.{longest_line}
use Rattle.fk_job.specs.Spellings.{AreBytes}
use Rattle.fk_model.specs.declared.gate.Gate.{Gate}
use Rattle.fk_model.specs.declared.item.Item.{Item}
use Rattle.fk_model.specs.declared.item.Item.TheVariants.{Own, Asks}
use Rattle.fk_model.specs.Commands.{arguments}
use Rattle.fk_model.specs.Script.{AreGiven, AreItemsOf, command_of}
use Rattle.fk_model.proofs.LineRange.{line_in_range}
use Rattle.fk_command.specs.declared.command.Command.{Command}
use Rattle.fk_command.specs.declared.command.Command.TheVariants.{Ask, End, Wrong}
use Rattle.fk_command.specs.Commands.{IsAnswerable, IsInForm, items_of}

-- some gate: behind an accepted HELLO it is all the same
some_gate : Gate
some_gate = record { password = None; salt = 0; rounds = 1 }

in_form : (item : Option Item) → IfSome item IsInForm → All IsInForm (option_to_list item)
in_form None form = All-nil IsInForm
in_form (Some item) form = All-cons IsInForm item [] form (All-nil IsInForm)

fits : (wid line : List ℕ) (command : Command) → AreBytes line → length line ≤ longest_line
    → AreGiven wid (command_of line) (arguments line) (items_of command)
    → All IsInForm (items_of command) → IsAnswerable command
unfolding AreItemsOf
fits wid line (Ask ask) are short given form =
    line_in_range some_gate (Some wid) line ask are short given (All-head IsInForm (Asks ask) [] form)
fits wid line End are short given form = tt
fits wid line (Wrong reply) are short given form = All-head IsInForm (Own reply) [] form

-- what an item stands for can be answered, where the item is in form
pub answerable : (wid line : List ℕ) (item : Option Item) (command : Command) → AreBytes line
    → length line ≤ longest_line → items_of command ≡ option_to_list item
    → AreGiven wid (command_of line) (arguments line) (option_to_list item)
    → IfSome item IsInForm → IsAnswerable command
answerable wid line item command are short same given form =
    fits wid line command are short
    (subst (AreGiven wid (command_of line) (arguments line)) (sym same) given)
    (subst (All IsInForm) (sym same) (in_form item form))
