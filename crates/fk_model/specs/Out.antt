-- What is written to a client: the greeting, the script's own replies and the answers of its turns.
use Rattle.std.specs.Prelude.{ℕ, List, [], ◌∷◌, ◌++◌}
use Rattle.fk_frame.specs.declared.reply.Reply.{Reply}
use Rattle.fk_frame.specs.Replies.{reply_bytes}
use Rattle.fk_model.specs.declared.answer.Answer.{Answer}
use Rattle.fk_model.specs.declared.ask.Ask.{Ask}
use Rattle.fk_model.specs.declared.item.Item.{Item}
use Rattle.fk_model.specs.declared.item.Item.TheVariants.{Own, Asks}
use Rattle.fk_model.specs.Answers.{answer_bytes}
use Rattle.fk_model.specs.declared.gate.Gate.{Gate}
use Rattle.fk_model.specs.Handshake.{greeting}

-- the asks among the items, in order
abbrev pub asks_of : List Item → List Ask
asks_of [] = []
asks_of (Own reply ∷ items) = asks_of items
asks_of (Asks ask ∷ items) = ask ∷ asks_of items

-- the replies of the script's own, in order
abbrev pub own_replies : List Item → List Reply
own_replies [] = []
own_replies (Own reply ∷ items) = reply ∷ own_replies items
own_replies (Asks ask ∷ items) = own_replies items

-- the bytes of the script's own replies and of the answers to its asks, in the order of the script, up
-- to the first ask that has no answer
abbrev pub out : List Item → List Answer → List ℕ
out [] answers = []
out (Own reply ∷ items) answers = reply_bytes reply ++ out items answers
out (Asks ask ∷ items) [] = []
out (Asks ask ∷ items) (answer ∷ answers) = answer_bytes answer ++ out items answers

-- all that is due to a client whose bytes give these items
abbrev pub output : Gate → List Item → List Answer → List ℕ
output gate items answers = greeting gate ++ out items answers
