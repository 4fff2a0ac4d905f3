-- What memory was wanted for, where it ran out at the lines of a piece.
use Rattle.std.proofs.Common.{◌≡◌, ◌≢◌, ◌∙◌, ℕ, ◌-◌, ◌<◌, true, List, [], ◌∷◌, ◌++◌, length, get_or, refl, sym, ap, subst, inl, inr, arith, length-append}
use Rattle.std.specs.Prelude.{◌⊎◌, Contains, slice_index}
use Rattle.std.proofs.lemmas.List.{append-nil, get_or-append_right, get_or_default}
use Rattle.fk_frame.specs.declared.line_reader.Line.{Line}
use Rattle.fk_frame.specs.declared.line_reader.Line.TheVariants.{Whole, Need, TooLong}
use Rattle.fk_frame.specs.Bytes.{line_feed}
use Rattle.fk_frame.specs.Lines.{lines_of}
use Rattle.fk_frame.specs.Reading.{HasLine, HasLongLine}
use Rattle.fk_frame.specs.Replies.{reply_bytes}
use Rattle.fk_model.specs.declared.entry.Entry.{Entry}
use Rattle.fk_model.specs.declared.gate.Gate.{Gate}
use Rattle.fk_model.specs.declared.item.Item.{Item}
use Rattle.fk_model.specs.declared.item.Item.TheVariants.{Own, Asks}
use Rattle.fk_model.specs.Out.{asks_of, out, output}
use Rattle.fk_model.specs.Script.{IsOver}
use Rattle.fk_model.proofs.Outs.{asks_of-append}
use Rattle.fk_talk.specs.declared.standing.Standing.{Standing}
use Rattle.fk_talk.specs.declared.standing.Standing.TheVariants.{Nobody, Over}
use Rattle.fk_talk.specs.Advance.{Advances, AreDueFrom, ends_from}
use Rattle.fk_conn.specs.Turning.{answers_in, asks_in}
use Rattle.fk_conn.specs.Session.{Begins, EndsMidLine, IsAnswered, IsPartOf, WantedMemory}
use Rattle.fk_conn.proofs.Giving.{output_own}
use Rattle.fk_conn.proofs.Gives.{due_or_ends}
use Rattle.fk_conn.proofs.Writing.{some_bytes}

-- ---- not all was answered

-- a part of what is due isn't all of it
pub cut_unanswered : (gate : Gate) (items : List Item) (history : List Entry) (part : List ℕ)
    → IsPartOf part (output gate items (answers_in history)) → ¬ IsAnswered gate items history part
cut_unanswered gate items history part (rest, some, is) all =
    omega (arith, some, ap length is, ap length all.replies, length-append part rest)

-- more is due than to the items whose turns were made
unanswered : (gate : Gate) (front behind : List Item) (history : List Entry) (part : List ℕ)
    → asks_in history ≡ asks_of front → Begins part (output gate front (answers_in history))
    → 0 < length behind → ¬ IsAnswered gate (front ++ behind) history part
unanswered gate front [] history part asks begins some all = omega (arith, some)
unanswered gate front (Asks ask ∷ behind) history part asks begins some all =
    let same = sym asks ∙ all.asks ∙ asks_of-append front (Asks ask ∷ behind) in
    omega (arith, ap length same, length-append (asks_of front) (ask ∷ asks_of behind))
unanswered gate front (Own reply ∷ behind) history part asks (rest, is) some all =
    let due = output gate front (answers_in history) in
    let more = out (Own reply ∷ behind) [] in
    let whole = output_own gate front (Own reply ∷ behind) history asks in
    omega (
      arith,
      ap length is,
      length-append part rest,
      ap length (all.replies ∙ whole),
      length-append due more,
      some_bytes reply,
      length-append (reply_bytes reply) (out behind []),
    )

-- ---- a line is next

-- the items so far, and how far the talk has come with them
pub record IsSoFar
    (gate : Gate) (taken : List ℕ) (items behind : List Item) (standing : Standing) (rest : List ℕ)
    (history : List Entry) (part : List ℕ) : Type 0 where
  pub advances : Advances gate Nobody taken items standing rest
  pub going : standing ≢ Over
  pub asks : asks_in history ≡ asks_of items
  pub begins : Begins part (output gate items (answers_in history))
  pub are : AreDueFrom gate standing (lines_of rest) behind

-- the talk ends in the bytes that were taken
ends_in : (gate : Gate) (taken : List ℕ) (items : List Item) (standing : Standing) (rest : List ℕ)
    → Advances gate Nobody taken items standing rest → ends_from gate standing (lines_of rest) ≡ true
    → IsOver gate taken
ends_in gate taken items standing rest advances ends =
    let same = rw (append-nil taken, append-nil rest) at (advances.comes []) in
    same ∙ ends

line_is_next : (gate : Gate) (taken : List ℕ) (items behind : List Item) (standing : Standing) (rest : List ℕ)
    (history : List Entry) (part : List ℕ) (line : Line) (lines : List Line)
    → IsSoFar gate taken items behind standing rest history part → line ≢ Need
    → lines_of rest ≡ line ∷ lines → WantedMemory gate taken (items ++ behind) history part
line_is_next gate taken items behind standing rest history part line lines so_far whole next =
    elim (due_or_ends gate standing line lines behind whole so_far.going
    (subst (λ all. AreDueFrom gate standing all behind) next so_far.are)) [
      | inl some ↦ inl (unanswered gate items behind history part so_far.asks so_far.begins some)
      | inr ends ↦ inr (inl (ends_in gate taken items standing rest so_far.advances
          (subst (λ all. ends_from gate standing all ≡ true) (sym next) ends)))
    ]

whole_is_some : (line : List ℕ) → Whole line ≢ Need
whole_is_some line is = cc

long_is_some : TooLong ≢ Need
long_is_some is = cc

pub wanted_at_line : (gate : Gate) (taken : List ℕ) (items behind : List Item) (standing : Standing)
    (rest : List ℕ) (history : List Entry) (part : List ℕ)
    → IsSoFar gate taken items behind standing rest history part
    → HasLine rest ⊎ HasLongLine rest rest → WantedMemory gate taken (items ++ behind) history part
wanted_at_line gate taken items behind standing rest history part so_far (inl (line, later, first)) =
    line_is_next gate taken items behind standing rest history part (Whole line) (lines_of later) so_far
    (whole_is_some line) (rw (append-nil, append-nil) at (first.lines []))
wanted_at_line gate taken items behind standing rest history part so_far (inr long) =
    let (more, next) = long.lines [] in
    line_is_next gate taken items behind standing rest history part TooLong more so_far long_is_some
    (rw append-nil at next)

-- ---- no line is next

-- the last byte of a list that goes on is the last of what it goes on by
last_of : (xs piece : List ℕ) → 0 < length piece
    → slice_index (xs ++ piece) (length (xs ++ piece) - 1) ≡ slice_index piece (length piece - 1)
last_of xs piece some =
    let whole = length-append xs piece in
    let same : length (xs ++ piece) - 1 - length xs ≡ length piece - 1 = omega arith in
    get_or-append_right xs piece (length xs) (length (xs ++ piece) - 1) 0 refl (omega arith)
    ∙ ap (λ k. get_or piece k 0) same

-- where no line ends in what a piece goes on, the bytes with it end in the middle of a line
pub ends_mid : (taken waiting piece : List ℕ) → 0 < length piece → ¬ Contains (waiting ++ piece) line_feed
    → EndsMidLine (taken ++ piece)
ends_mid taken waiting piece some none is =
    let at = length (waiting ++ piece) - 1 in
    let within : at < length (waiting ++ piece) = omega (arith, some, length-append waiting piece) in
    let last = last_of waiting piece some ∙ sym (last_of taken piece some) ∙ is in
    none (at, within, get_or_default (waiting ++ piece) at line_feed 0 within ∙ last)
