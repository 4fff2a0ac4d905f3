-- What a talk has said over all its pieces, when it is opened, fed a piece, given an answer, and sent from.
use Rattle.std.proofs.Common.{◌≡◌, arith, refl, sym, ap, ◌∙◌, ℕ, List, [], ◌∷◌, ◌++◌, length, take, drop, true, append_assoc, length-append}
use Rattle.std.proofs.lemmas.Bool.{false≢true}
use Rattle.std.proofs.lemmas.List.{append-nil, take-append-drop}
use Rattle.fk_model.specs.declared.answer.Answer.{Answer}
use Rattle.fk_model.specs.declared.ask.Ask.{Ask}
use Rattle.fk_model.specs.declared.gate.Gate.{Gate}
use Rattle.fk_model.specs.declared.item.Item.{Item}
use Rattle.fk_model.specs.declared.item.Item.TheVariants.{Asks}
use Rattle.fk_model.specs.Answers.{answer_bytes}
use Rattle.fk_model.specs.Handshake.{greeting}
use Rattle.fk_model.specs.Out.{asks_of, out, output}
use Rattle.fk_model.proofs.Outs.{asks_of-append, out-asks, output-append}
use Rattle.fk_talk.specs.declared.standing.Standing.TheVariants.{Nobody}
use Rattle.fk_talk.specs.Talks.{AwaitsAnswer, HasTalked, Talking, answered, fed, opened, starving, without_sent}
use Rattle.fk_talk.specs.Whole.{Answers, Feeds, Keeps, Sends}
use Rattle.fk_talk.proofs.Advance as advance
use Rattle.fk_talk.proofs.Advance.{stays}

-- ---- what needs no line

pub opens : (gate : Gate) → HasTalked gate [] [] [] [] (opened gate)
opens gate = record {
  through = refl;
  standing = Nobody;
  rest = [];
  advances = stays gate Nobody [];
  here = λ going. (refl, refl);
  settled = λ unasked going. refl;
  waits = λ asked. absurd (false≢true asked);
  put = sym (append-nil (greeting gate));
}

pub feeds : (old : Talking) (piece : List ℕ) → Feeds piece old (fed old piece)
feeds old piece gate bytes items answers sent talked = record {
  through = talked.through;
  standing = talked.standing;
  rest = talked.rest ++ piece;
  advances = advance.fed piece talked.advances;
  here = λ going. ((talked.here going).0, ap (λ left. left ++ piece) (talked.here going).1);
  settled = talked.settled;
  waits = talked.waits;
  put = talked.put;
}

pub keeps : (old : Talking) → Keeps old (starving old)
keeps old gate bytes items answers sent talked = record {
  through = talked.through;
  standing = talked.standing;
  rest = talked.rest;
  advances = talked.advances;
  here = λ going. absurd (false≢true (sym going));
  settled = λ unasked going. absurd (false≢true (sym going));
  waits = λ asked. absurd (false≢true asked);
  put = talked.put;
}

sent_on : (sent out : List ℕ) (count : ℕ) → (sent ++ take count out) ++ drop count out ≡ sent ++ out
sent_on sent out count =
    append_assoc sent (take count out) (drop count out) ∙ ap (λ bytes. sent ++ bytes) (take-append-drop count out)

pub sends : (count : ℕ) (old : Talking) → Sends count old (without_sent count old)
sends count old gate bytes items answers sent talked = record {
  through = talked.through;
  standing = talked.standing;
  rest = talked.rest;
  advances = talked.advances;
  here = talked.here;
  settled = talked.settled;
  waits = talked.waits;
  put = sent_on sent old.out count ∙ talked.put;
}

-- ---- an answer

pub output-front : (gate : Gate) (front back : List Item) (answers : List Answer)
    → length answers ≡ length (asks_of front)
    → output gate (front ++ back) answers ≡ output gate front answers ++ out back []
output-front gate front back answers each =
    ap (output gate (front ++ back)) (sym (append-nil answers)) ∙ output-append gate front back answers [] each

put_answer : (gate : Gate) (front : List Item) (ask : Ask) (answers : List Answer) (answer : Answer)
    → length answers ≡ length (asks_of front)
    → output gate (front ++ Asks ask ∷ []) answers ++ answer_bytes answer
    ≡ output gate (front ++ Asks ask ∷ []) (answers ++ answer ∷ [])
put_answer gate front ask answers answer each =
    ap (λ bytes. bytes ++ answer_bytes answer)
    (output-front gate front (Asks ask ∷ []) answers each ∙ append-nil (output gate front answers))
    ∙ ap (λ bytes. output gate front answers ++ bytes) (sym (out-asks ask answer))
    ∙ sym (output-append gate front (Asks ask ∷ []) answers (answer ∷ []) each)

pub put_behind : (sent front more whole : List ℕ) → sent ++ front ≡ whole → sent ++ (front ++ more) ≡ whole ++ more
put_behind sent front more whole put = sym (append_assoc sent front more) ∙ ap (λ bytes. bytes ++ more) put

answered_put : (gate : Gate) (items : List Item) (answers : List Answer) (answer : Answer)
    → AwaitsAnswer items answers
    → output gate items answers ++ answer_bytes answer ≡ output gate items (answers ++ answer ∷ [])
answered_put gate items answers answer waits =
    rw waits.are (put_answer gate waits.front waits.ask answers answer waits.each)

answered_each : (items : List Item) (answers : List Answer) (answer : Answer) → AwaitsAnswer items answers
    → length (answers ++ answer ∷ []) ≡ length (asks_of items)
answered_each items answers answer waits =
    rw (waits.are, asks_of-append waits.front (Asks waits.ask ∷ []))
    (omega (
      arith,
      waits.each,
      length-append answers (answer ∷ []),
      length-append (asks_of waits.front) (waits.ask ∷ []),
    ))

pub answers_on : (old : Talking) (answer : Answer) → old.asked ≡ true → Answers answer old (answered old answer)
answers_on old answer asked gate bytes items given sent talked =
    let waits = talked.waits asked in
    record {
      through = talked.through;
      standing = talked.standing;
      rest = talked.rest;
      advances = talked.advances;
      here = talked.here;
      settled = λ unasked going. answered_each items given answer waits;
      waits = λ asked. absurd (false≢true asked);
      put = put_behind sent old.out (answer_bytes answer) _ talked.put ∙ answered_put gate items given answer waits;
    }
