-- A talk that goes on from line to line: a line brings it on, gives an ask, or ends it.
use Rattle.std.proofs.Common.{◌≡◌, ◌≢◌, refl, sym, subst, ap, ◌∙◌, ℕ, List, [], ◌∷◌, ◌++◌, length, Option, None, Some, append_assoc}
use Rattle.std.specs.Prelude.{IfOk, Result, Ok, Err, option_to_list, unwrap_or}
use Rattle.std.proofs.lemmas.Bool.{false≢true}
use Rattle.std.specs.Option.{is_some}
use Rattle.fk_frame.specs.declared.line_reader.Line.TheVariants.{Whole}
use Rattle.fk_frame.specs.Reading.{HasLongLine, IsFirstLine}
use Rattle.fk_model.specs.declared.ask.Ask.{Ask}
use Rattle.fk_model.specs.declared.item.Item.{Item}
use Rattle.fk_model.specs.declared.item.Item.TheVariants.{Own, Asks}
use Rattle.fk_model.specs.Out.{out}
use Rattle.fk_model.specs.Script.{too_long}
use Rattle.fk_model.proofs.Outs.{asks_of-append, out-front}
use Rattle.fk_talk.specs.declared.standing.Standing.{Standing}
use Rattle.fk_talk.specs.declared.standing.Standing.TheVariants.{Over}
use Rattle.fk_talk.specs.declared.turn.Turn.{Turn}
use Rattle.fk_talk.specs.declared.turn.Turn.TheVariants as turn
use Rattle.fk_talk.specs.Advance.{Advances}
use Rattle.fk_talk.specs.Hearing.{AreHeard, standing_after}
use Rattle.fk_talk.specs.Steps.{Goes, Hears, asked_by, ended_by_long_line, taken}
use Rattle.fk_talk.specs.Talks.{AreOwn, Comes, Reads, Talking}
use Rattle.fk_talk.proofs.Advance.{joined}
use Rattle.fk_talk.proofs.Heard.{by_heard, by_heard_long}

-- ---- items behind those that the talk answered itself

put_on : (first now own_out more : List ℕ) → now ≡ first ++ own_out → now ++ more ≡ first ++ (own_out ++ more)
put_on first now own_out more put = ap (λ bytes. bytes ++ more) put ∙ append_assoc first own_out more

reads_on : (first now : Talking) (own items : List Item) (to : Standing) (rest : List ℕ)
    → Reads first now own → AreOwn own → Advances now.gate now.standing now.waiting items to rest
    → Advances first.gate first.standing first.waiting (own ++ items) to rest
reads_on first now own items to rest reads are_own step =
    joined reads.advances
    (subst (λ gate. Advances gate now.standing now.waiting items to rest) reads.gate step)

outs_on : (first now : Talking) (own items : List Item) → Reads first now own → AreOwn own
    → now.out ++ out items [] ≡ first.out ++ out (own ++ items) []
outs_on first now own items reads are_own =
    put_on first.out now.out (out own []) (out items []) reads.put
    ∙ ap (λ bytes. first.out ++ bytes) (sym (out-front own items [] (sym (ap length are_own))))

-- a whole line was heard, and its item taken
abbrev after : Talking → List ℕ → List ℕ → Option Item → Talking
after now line rest item =
    record (taken (record now { waiting = rest }) item) {
      standing = standing_after now.gate now.standing (Whole line);
    }

hears_on : (first now : Talking) (own : List Item) (line rest : List ℕ) (item : Option Item)
    → Reads first now own → AreOwn own → now.standing ≢ Over → IsFirstLine now.waiting line rest
    → AreHeard now.gate now.standing (Whole line) (option_to_list item)
    → Reads first (after now line rest item) (own ++ option_to_list item)
hears_on first now own line rest item reads are_own going is gives = record {
  advances = reads_on first now own (option_to_list item) _ rest reads are_own
      (by_heard now.gate now.standing now.waiting line rest (option_to_list item) going is gives);
  put = outs_on first now own (option_to_list item) reads are_own;
  gate = reads.gate;
  starved = reads.starved;
}

no_ask : (item : Option Item) → None ≡ asked_by item → AreOwn (option_to_list item)
no_ask None none = refl
no_ask (Some (Own reply)) none = refl
no_ask (Some (Asks ask)) none = absurd (false≢true (ap is_some none))

this_ask : (ask : Ask) (item : Option Item) → Some ask ≡ asked_by item → option_to_list item ≡ Asks ask ∷ []
this_ask ask None is = absurd (false≢true (sym (ap is_some is)))
this_ask ask (Some (Own reply)) is = absurd (false≢true (sym (ap is_some is)))
this_ask ask (Some (Asks other)) is = ap (λ found. Asks (unwrap_or found ask) ∷ []) (sym is)

-- the line has no ask, and the talk goes on
pub goes_on : (first now new : Talking) (line rest : List ℕ) → Goes first now → now.standing ≢ Over
    → IsFirstLine now.waiting line rest → Hears (Whole line) None (record now { waiting = rest }) new
    → Goes first new
goes_on first now new line rest so_far going is heard = record {
  own = so_far.own ++ option_to_list heard.item;
  are_own = asks_of-append so_far.own (option_to_list heard.item)
      ∙ rw (so_far.are_own) (no_ask heard.item heard.gives_ask);
  reads = subst (λ talk. Reads first talk (so_far.own ++ option_to_list heard.item)) (sym heard.is)
      (hears_on first now so_far.own line rest heard.item so_far.reads so_far.are_own going is heard.gives);
  asked = rw heard.is (ap is_some (sym heard.gives_ask));
}

-- the line has one, which the talk gives
pub gives_ask : (first now new : Talking) (ask : Ask) (line rest : List ℕ) → Goes first now
    → now.standing ≢ Over → IsFirstLine now.waiting line rest
    → Hears (Whole line) (Some ask) (record now { waiting = rest }) new → Comes (turn.Ask ask) first new
gives_ask first now new ask line rest so_far going is heard = record {
  own = so_far.own;
  are_own = so_far.are_own;
  is = (
    subst (λ items. Reads first new (so_far.own ++ items)) (this_ask ask heard.item heard.gives_ask)
        (subst (λ talk. Reads first talk (so_far.own ++ option_to_list heard.item)) (sym heard.is)
        (hears_on first now so_far.own line rest heard.item so_far.reads so_far.are_own going is heard.gives)),
    rw heard.is (ap is_some (sym heard.gives_ask)),
  );
}

-- ---- the ends

-- a line that is too long ends the talk
pub ends_long : (first now : Talking) (rest : List ℕ) → Goes first now → now.standing ≢ Over
    → HasLongLine now.waiting rest
    → Comes turn.Over first (ended_by_long_line (record now { waiting = rest }))
ends_long first now rest so_far going long = record {
  own = so_far.own ++ too_long ∷ [];
  are_own = asks_of-append so_far.own (too_long ∷ []) ∙ rw so_far.are_own refl;
  is = (
    record {
      advances = reads_on first now so_far.own (too_long ∷ []) Over rest so_far.reads so_far.are_own
          (by_heard_long now.gate now.standing now.waiting rest rest going long);
      put = outs_on first now so_far.own (too_long ∷ []) so_far.reads so_far.are_own;
      gate = so_far.reads.gate;
      starved = so_far.reads.starved;
    },
    so_far.asked,
    refl,
  );
}

pub ended_long : {E : Type 0} (first now new : Talking) (rest : List ℕ) (result : Result Turn E) → Goes first now
    → now.standing ≢ Over → HasLongLine now.waiting rest
    → IfOk result (λ ended. (ended ≡ turn.Over) × (new ≡ ended_by_long_line (record now { waiting = rest })))
    → IfOk result (λ ended. Comes ended first new)
ended_long first now new rest (Ok ended) so_far going long (is, after_it) =
    rw (is, after_it) (ends_long first now rest so_far going long)
ended_long first now new rest (Err fault) so_far going long is = tt
