-- What is due to items and to more items, by the history of their turns.
use Rattle.std.proofs.Common.{◌≡◌, ℕ, List, [], ◌++◌, length, ap, sym, ◌∙◌, append_assoc}
use Rattle.std.proofs.lemmas.List.{length-map, map-append, append-nil}
use Rattle.std.proofs.Math.Seq.{drop-append_seam}
use Rattle.fk_model.specs.declared.entry.Entry.{Entry}
use Rattle.fk_model.specs.declared.gate.Gate.{Gate}
use Rattle.fk_model.specs.declared.item.Item.{Item}
use Rattle.fk_model.specs.Handshake.{greeting}
use Rattle.fk_model.specs.Out.{asks_of, out, output}
use Rattle.fk_model.proofs.Outs.{asks_of-append, out-append, out-front, out_goes_on, output-append}
use Rattle.fk_conn.specs.Session.{Begins, IsPartOf, behind_greeting}
use Rattle.fk_conn.specs.Turning.{answers_in, asks_in}
use Rattle.fk_conn.proofs.Writing.{begins_behind, begins_more, part_of_more}

-- there is an answer for each ask
pub one_each : (items : List Item) (history : List Entry) → asks_in history ≡ asks_of items
    → length (answers_in history) ≡ length (asks_of items)
one_each items history asks =
    length-map history (λ entry. entry.answer)
    ∙ sym (length-map history (λ entry. entry.ask)) ∙ ap length asks

-- the asks of some items and then of more
pub asks_both : (items more : List Item) (xs ys : List Entry) → asks_in xs ≡ asks_of items
    → asks_in ys ≡ asks_of more → asks_in (xs ++ ys) ≡ asks_of (items ++ more)
asks_both items more xs ys first second =
    map-append (λ entry. entry.ask) xs ys ∙ rw (first, second) (sym (asks_of-append items more))

-- the same, where the others ask for nothing
pub asks_own : (items own : List Item) (history : List Entry) → asks_in history ≡ asks_of items
    → asks_of own ≡ [] → asks_in history ≡ asks_of (items ++ own)
asks_own items own history asks none =
    asks ∙ sym (asks_of-append items own ∙ ap (λ more. asks_of items ++ more) none ∙ append-nil (asks_of items))

-- what is due to some items and then to more
pub output_both : (gate : Gate) (items more : List Item) (xs ys : List Entry) → asks_in xs ≡ asks_of items
    → output gate (items ++ more) (answers_in (xs ++ ys))
    ≡ output gate items (answers_in xs) ++ out more (answers_in ys)
output_both gate items more xs ys first =
    ap (output gate (items ++ more)) (map-append (λ entry. entry.answer) xs ys)
    ∙ output-append gate items more (answers_in xs) (answers_in ys) (one_each items xs first)

pub out_both : (items more : List Item) (xs ys : List Entry) → asks_in xs ≡ asks_of items
    → out (items ++ more) (answers_in (xs ++ ys)) ≡ out items (answers_in xs) ++ out more (answers_in ys)
out_both items more xs ys first =
    ap (out (items ++ more)) (map-append (λ entry. entry.answer) xs ys)
    ∙ out-append items more (answers_in xs) (answers_in ys) (one_each items xs first)

-- more turns add nothing to what is due to items that have their answers
pub out_still : (items : List Item) (history later : List Entry) → asks_in history ≡ asks_of items
    → out items (answers_in (history ++ later)) ≡ out items (answers_in history)
out_still items history later asks =
    ap (λ all. out all (answers_in (history ++ later))) (sym (append-nil items))
    ∙ out_both items [] history later asks ∙ append-nil (out items (answers_in history))

-- the same, where no turn was made for the others
pub output_own : (gate : Gate) (items more : List Item) (history : List Entry)
    → asks_in history ≡ asks_of items
    → output gate (items ++ more) (answers_in history) ≡ output gate items (answers_in history) ++ out more []
output_own gate items more history asks =
    ap (λ bytes. greeting gate ++ bytes) (out-front items more (answers_in history) (one_each items history asks))
    ∙ sym (append_assoc (greeting gate) (out items (answers_in history)) (out more []))

-- what was written behind the greeting
pub behind_the_greeting : (gate : Gate) (whole : List ℕ)
    → behind_greeting gate (greeting gate ++ whole) ≡ whole
behind_the_greeting gate whole = drop-append_seam (greeting gate) whole

-- and where more follows
pub behind_it : (gate : Gate) (whole part : List ℕ)
    → behind_greeting gate ((greeting gate ++ whole) ++ part) ≡ whole ++ part
behind_it gate whole part =
    ap (behind_greeting gate) (append_assoc (greeting gate) whole part)
    ∙ behind_the_greeting gate (whole ++ part)

-- what is due to some items is a front of what is due to them and more
pub due_begins : (gate : Gate) (front behind : List Item) (history : List Entry)
    → Begins (output gate front (answers_in history)) (output gate (front ++ behind) (answers_in history))
due_begins gate front behind history =
    let (rest, whole) = out_goes_on front behind (answers_in history) in
    begins_behind (greeting gate) (out front (answers_in history)) (out (front ++ behind) (answers_in history))
    (rest, whole)

-- a part of what was due is one of that, too
pub part_of_due : (gate : Gate) (front behind : List Item) (history : List Entry) (part : List ℕ)
    → IsPartOf part (output gate front (answers_in history))
    → IsPartOf part (output gate (front ++ behind) (answers_in history))
part_of_due gate front behind history part is_part =
    let (rest, whole) = due_begins gate front behind history in
    rw whole (part_of_more part (output gate front (answers_in history)) rest is_part)

pub begins_due : (gate : Gate) (front behind : List Item) (history : List Entry) (part : List ℕ)
    → Begins part (output gate front (answers_in history))
    → Begins part (output gate (front ++ behind) (answers_in history))
begins_due gate front behind history part begins =
    let (rest, whole) = due_begins gate front behind history in
    rw whole (begins_more part (output gate front (answers_in history)) rest begins)
