-- What is written for items that stand one behind the other, where the first have an answer for each of
-- their asks, or fewer.
use Rattle.std.proofs.Common.{◌≡◌, ℕ, ◌<◌, List, [], ◌∷◌, ◌++◌, length, arith, refl, sym, ap, ◌∙◌, append_assoc}
use Rattle.std.proofs.lemmas.List.{append-nil}
use Rattle.fk_frame.specs.declared.reply.Reply.{Reply}
use Rattle.fk_frame.specs.Replies.{reply_bytes}
use Rattle.fk_model.specs.declared.answer.Answer.{Answer}
use Rattle.fk_model.specs.declared.ask.Ask.{Ask}
use Rattle.fk_model.specs.declared.gate.Gate.{Gate}
use Rattle.fk_model.specs.declared.item.Item.{Item}
use Rattle.fk_model.specs.declared.item.Item.TheVariants.{Own, Asks}
use Rattle.fk_model.specs.Answers.{answer_bytes}
use Rattle.fk_model.specs.Handshake.{greeting}
use Rattle.fk_model.specs.Out.{asks_of, out, output, own_replies}

-- ---- the asks and the own replies of two lists

pub asks_of-append : (front back : List Item) → asks_of (front ++ back) ≡ asks_of front ++ asks_of back
asks_of-append [] back = refl
asks_of-append (Own reply ∷ front) back = asks_of-append front back
asks_of-append (Asks ask ∷ front) back = ap (λ asks. ask ∷ asks) (asks_of-append front back)

pub own_replies-append : (front back : List Item)
    → own_replies (front ++ back) ≡ own_replies front ++ own_replies back
own_replies-append [] back = refl
own_replies-append (Own reply ∷ front) back =
    ap (λ replies. reply ∷ replies) (own_replies-append front back)
own_replies-append (Asks ask ∷ front) back = own_replies-append front back

-- ---- one item

pub out-own : (reply : Reply) (answers : List Answer) → out (Own reply ∷ []) answers ≡ reply_bytes reply
out-own reply answers = append-nil (reply_bytes reply)

pub out-asks : (ask : Ask) (answer : Answer) → out (Asks ask ∷ []) (answer ∷ []) ≡ answer_bytes answer
out-asks ask answer = append-nil (answer_bytes answer)

-- ---- two lists, where the first has an answer for each of its asks

pub out-append : (front back : List Item) (first others : List Answer)
    → length first ≡ length (asks_of front)
    → out (front ++ back) (first ++ others) ≡ out front first ++ out back others
out-append [] back [] others each = refl
out-append [] back (answer ∷ first) others each = absurd (omega (arith, each))
out-append (Own reply ∷ front) back first others each =
    ap (λ bytes. reply_bytes reply ++ bytes) (out-append front back first others each)
    ∙ sym (append_assoc (reply_bytes reply) (out front first) (out back others))
out-append (Asks ask ∷ front) back [] others each = absurd (omega (arith, each))
out-append (Asks ask ∷ front) back (answer ∷ first) others each =
    ap (λ bytes. answer_bytes answer ++ bytes) (out-append front back first others (omega (arith, each)))
    ∙ sym (append_assoc (answer_bytes answer) (out front first) (out back others))

pub output-append : (gate : Gate) (front back : List Item) (first others : List Answer)
    → length first ≡ length (asks_of front)
    → output gate (front ++ back) (first ++ others) ≡ output gate front first ++ out back others
output-append gate front back first others each =
    ap (λ bytes. greeting gate ++ bytes) (out-append front back first others each)
    ∙ sym (append_assoc (greeting gate) (out front first) (out back others))

-- with no more answers, what is behind them is written up to its first ask
pub out-front : (front back : List Item) (answers : List Answer) → length answers ≡ length (asks_of front)
    → out (front ++ back) answers ≡ out front answers ++ out back []
out-front front back answers each =
    ap (out (front ++ back)) (sym (append-nil answers)) ∙ out-append front back answers [] each

-- ---- fewer answers than asks

-- nothing is written behind an ask that has no answer
pub out-short : (front back : List Item) (answers : List Answer) → length answers < length (asks_of front)
    → out (front ++ back) answers ≡ out front answers
out-short [] back answers fewer = absurd (omega (arith, fewer))
out-short (Own reply ∷ front) back answers fewer =
    ap (λ bytes. reply_bytes reply ++ bytes) (out-short front back answers fewer)
out-short (Asks ask ∷ front) back [] fewer = refl
out-short (Asks ask ∷ front) back (answer ∷ answers) fewer =
    ap (λ bytes. answer_bytes answer ++ bytes) (out-short front back answers (omega (arith, fewer)))

-- ---- beginnings

-- more answers write more
pub out_begins : (items : List Item) (answers more : List Answer)
    → (rest : List ℕ) × (out items (answers ++ more) ≡ out items answers ++ rest)
out_begins [] answers more = ([], refl)
out_begins (Own reply ∷ items) answers more =
    let (rest, whole) = out_begins items answers more in (
      rest,
      ap (λ bytes. reply_bytes reply ++ bytes) whole
          ∙ sym (append_assoc (reply_bytes reply) (out items answers) rest),
    )
out_begins (Asks ask ∷ items) [] more = (out (Asks ask ∷ items) more, refl)
out_begins (Asks ask ∷ items) (answer ∷ answers) more =
    let (rest, whole) = out_begins items answers more in (
      rest,
      ap (λ bytes. answer_bytes answer ++ bytes) whole
          ∙ sym (append_assoc (answer_bytes answer) (out items answers) rest),
    )

-- so do more items
pub out_goes_on : (front back : List Item) (answers : List Answer)
    → (rest : List ℕ) × (out (front ++ back) answers ≡ out front answers ++ rest)
out_goes_on [] back answers = (out back answers, refl)
out_goes_on (Own reply ∷ front) back answers =
    let (rest, whole) = out_goes_on front back answers in (
      rest,
      ap (λ bytes. reply_bytes reply ++ bytes) whole
          ∙ sym (append_assoc (reply_bytes reply) (out front answers) rest),
    )
out_goes_on (Asks ask ∷ front) back [] = ([], refl)
out_goes_on (Asks ask ∷ front) back (answer ∷ answers) =
    let (rest, whole) = out_goes_on front back answers in (
      rest,
      ap (λ bytes. answer_bytes answer ++ bytes) whole
          ∙ sym (append_assoc (answer_bytes answer) (out front answers) rest),
    )
