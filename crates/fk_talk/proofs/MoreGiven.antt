-- What a talk has said over all its pieces, where it gives more items.
use Rattle.std.proofs.Common.{◌≡◌, refl, sym, subst, ap, ◌∙◌, inl, inr, ℕ, List, [], ◌∷◌, ◌++◌, length, true, false, append_assoc}
use Rattle.std.proofs.lemmas.Bool.{false≢true}
use Rattle.std.proofs.lemmas.List.{append-nil}
use Rattle.fk_model.specs.declared.answer.Answer.{Answer}
use Rattle.fk_model.specs.declared.ask.Ask.{Ask}
use Rattle.fk_model.specs.declared.gate.Gate.{Gate}
use Rattle.fk_model.specs.declared.item.Item.{Item}
use Rattle.fk_model.specs.declared.item.Item.TheVariants.{Asks}
use Rattle.fk_model.specs.Out.{asks_of, out, output}
use Rattle.fk_model.proofs.Outs.{asks_of-append}
use Rattle.fk_talk.specs.declared.standing.Standing.{Standing}
use Rattle.fk_talk.specs.declared.standing.Standing.TheVariants.{Nobody}
use Rattle.fk_talk.specs.declared.turn.Turn.{Turn}
use Rattle.fk_talk.specs.declared.turn.Turn.TheVariants as turn
use Rattle.fk_talk.specs.Advance.{Advances}
use Rattle.fk_talk.specs.Steps.{Halts}
use Rattle.fk_talk.specs.Talks.{AreOwn, Comes, HasTalked, Reads, Starves, Talking}
use Rattle.fk_talk.specs.Whole.{BreaksOff, Gives, GivesMore}
use Rattle.fk_talk.proofs.Advance.{joined, not_over, over_is, script_is}
use Rattle.fk_talk.proofs.Due.{script_begun}
use Rattle.fk_talk.proofs.Talked.{output-front, put_behind}

-- ---- items behind what a talk has said

module _
    (gate : Gate) (bytes : List ℕ) (items : List Item) (answers : List Answer) (sent : List ℕ) (old : Talking)
    (unasked : old.asked ≡ false) (going : old.starved ≡ false)
    (talked : HasTalked gate bytes items answers sent old) where
  each : length answers ≡ length (asks_of items)
  each = talked.settled unasked going

  come : (more : List Item) (to : Standing) (rest : List ℕ)
      → Advances old.gate old.standing old.waiting more to rest
      → Advances gate Nobody bytes (items ++ more) to rest
  come more to rest step =
      joined talked.advances
      (subst (λ now. Advances gate talked.standing now more to rest) (talked.here going).1
      (subst (λ now. Advances gate now old.waiting more to rest) (talked.here going).0
      (subst (λ now. Advances now old.standing old.waiting more to rest) talked.through step)))

  put : (more : List Item) (now : List ℕ) → now ≡ old.out ++ out more []
      → sent ++ now ≡ output gate (items ++ more) answers
  put more now is =
      ap (λ all. sent ++ all) is ∙ put_behind sent old.out (out more []) (output gate items answers) talked.put
      ∙ sym (output-front gate items more answers each)

  own_each : (own : List Item) → AreOwn own → length answers ≡ length (asks_of (items ++ own))
  own_each own are =
      each
      ∙ sym (ap length (asks_of-append items own ∙ ap (λ asks. asks_of items ++ asks) are ∙ append-nil (asks_of items)))

  -- items of its own
  own_talked : (own : List Item) (new : Talking) → AreOwn own → Reads old new own → new.asked ≡ false
      → HasTalked gate bytes (items ++ own) answers sent new
  own_talked own new are reads none = record {
    through = reads.gate ∙ talked.through;
    standing = new.standing;
    rest = new.waiting;
    advances = come own new.standing new.waiting reads.advances;
    here = λ still. (refl, refl);
    settled = λ still_none still. own_each own are;
    waits = λ asked. absurd (false≢true (sym none ∙ asked));
    put = put own new.out reads.put;
  }

  -- an ask behind them
  ask_talked : (own : List Item) (ask : Ask) (new : Talking) → AreOwn own → Reads old new (own ++ Asks ask ∷ [])
      → new.asked ≡ true → HasTalked gate bytes (items ++ (own ++ Asks ask ∷ [])) answers sent new
  ask_talked own ask new are reads one = record {
    through = reads.gate ∙ talked.through;
    standing = new.standing;
    rest = new.waiting;
    advances = come (own ++ Asks ask ∷ []) new.standing new.waiting reads.advances;
    here = λ still. (refl, refl);
    settled = λ none still. absurd (false≢true (sym none ∙ one));
    waits = λ asked. record {
      front = items ++ own;
      ask = ask;
      are = sym (append_assoc items own (Asks ask ∷ []));
      each = own_each own are;
    };
    put = put (own ++ Asks ask ∷ []) new.out reads.put;
  }

  -- what comes next
  next_gives : (next : Turn) (new : Talking) → Comes next old new
      → GivesMore next gate bytes items answers sent old new
  next_gives (turn.Ask ask) new comes =
      let more = comes.own ++ Asks ask ∷ [] in
      record {
        more = more;
        asks = asks_of-append comes.own (Asks ask ∷ []) ∙ ap (λ asks. asks ++ ask ∷ []) comes.are_own;
        talked = ask_talked comes.own ask new comes.are_own comes.is.0 comes.is.1;
        script = λ still.
            script_begun gate bytes (items ++ more) new.standing new.waiting
            (come more new.standing new.waiting comes.is.0.advances);
      }
  next_gives turn.Need new comes =
      let (reads, none, on, no_line) = comes.is in
      let all = come comes.own new.standing new.waiting reads.advances in
      record {
        more = comes.own;
        asks = comes.are_own;
        talked = own_talked comes.own new comes.are_own reads none;
        script = λ still. (
          script_is gate bytes (items ++ comes.own) new.standing new.waiting all (inr no_line),
          not_over gate bytes (items ++ comes.own) new.standing new.waiting all (inr no_line) on,
        );
      }
  next_gives turn.Over new comes =
      let (reads, none, over) = comes.is in
      let all = come comes.own new.standing new.waiting reads.advances in
      record {
        more = comes.own;
        asks = comes.are_own;
        talked = own_talked comes.own new comes.are_own reads none;
        script = λ still. (
          script_is gate bytes (items ++ comes.own) new.standing new.waiting all (inl over),
          over_is gate bytes (items ++ comes.own) new.waiting
              (subst (λ to. Advances gate Nobody bytes (items ++ comes.own) to new.waiting) over all),
        );
      }

  -- memory runs out
  starves_talked : (new : Talking) (starves : Starves old new)
      → HasTalked gate bytes (items ++ starves.own) answers sent new
  starves_talked new starves = record {
    through = starves.gate ∙ talked.through;
    standing = starves.standing;
    rest = starves.rest;
    advances = come starves.own starves.standing starves.rest starves.advances;
    here = λ still. absurd (false≢true (sym still ∙ starves.starved));
    settled = λ none still. absurd (false≢true (sym still ∙ starves.starved));
    waits = λ asked. absurd (false≢true (sym starves.asked ∙ asked));
    put = put starves.own new.out starves.put;
  }

-- ---- as the calls say it

pub starves : (first new : Talking) → Halts first new → Starves first (record new { starved = true })
starves first new halts = record {
  own = halts.own;
  are_own = halts.are_own;
  standing = halts.standing;
  rest = halts.rest;
  advances = halts.advances;
  put = halts.put;
  going = halts.going;
  left = halts.left;
  gate = halts.gate;
  starved = refl;
  asked = halts.asked;
}

pub gives : (next : Turn) (old new : Talking) → old.asked ≡ false → old.starved ≡ false → Comes next old new
    → Gives next old new
gives next old new unasked going comes gate bytes items answers sent talked =
    next_gives gate bytes items answers sent old unasked going talked next new comes

pub breaks_off : (old new : Talking) → old.asked ≡ false → old.starved ≡ false → Starves old new
    → BreaksOff old new
breaks_off old new unasked going starves gate bytes items answers sent talked =
    (starves.own, starves.are_own, starves_talked gate bytes items answers sent old unasked going talked new starves)

-- a talk without memory is over, and says nothing more
pub is_spent : (old : Talking) → old.starved ≡ true → Gives turn.Over old old
is_spent old starved gate bytes items answers sent talked = record {
  more = [];
  asks = refl;
  talked = subst (λ all. HasTalked gate bytes all answers sent old) (sym (append-nil items)) talked;
  script = λ going. absurd (false≢true (sym going ∙ starved));
}
