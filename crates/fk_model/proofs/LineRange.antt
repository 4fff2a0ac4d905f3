-- The asks of a line and of a script are in range, where what serde_json decodes or writes of them is a
-- text.
use Rattle.std.proofs.Common.{◌≡◌, ℕ, ◌-◌, ◌<◌, ◌≤◌, Bool, true, false, List, [], ◌∷◌, ◌++◌, length, take, Option, None, Some, if◌then◌else◌, refl, ap, sym, subst, arith}
use Rattle.std.specs.Prelude.{All}
use Rattle.std.specs.List.{slice_split}
use Rattle.std.proofs.lemmas.Bool.{ltb-false}
use Rattle.std.proofs.lemmas.List.{length-take}
use Rattle.std.proofs.lemmas.List.Elements.{All-append, All-cons, All-head, All-nil, All-tail, All-take, All-weaker}
use Rattle.fk_frame.specs.declared.line_reader.Line.{Line}
use Rattle.fk_frame.specs.declared.line_reader.Line.TheVariants.{Whole, Need, TooLong}
use Rattle.fk_frame.specs.Bytes.{is_line_feed}
use Rattle.fk_frame.specs.Lines.{is_too_long, line_of, lines_in, lines_of, longest_line, without_return}
use Rattle.fk_frame.specs.Reading.{IsFirstLine, front_of}
use Rattle.fk_job.specs.Spellings.{AreBytes}
use Rattle.fk_model.specs.declared.ask.Ask.{Ask}
use Rattle.fk_model.specs.declared.gate.Gate.{Gate}
use Rattle.fk_model.specs.declared.item.Item.{Item}
use Rattle.fk_model.specs.declared.item.Item.TheVariants.{Asks}
use Rattle.fk_model.specs.Commands.{arguments, is_space}
use Rattle.fk_model.specs.Payloads.{object_read}
use Rattle.fk_model.specs.Handshake.{welcome}
use Rattle.fk_model.specs.Range.{HasJsonTexts, IsInRange}
use Rattle.fk_model.specs.Script.{AreGiven, AreItemsFrom, AreItemsOf, Command, IsGiven, IsScript, ack, batch, beat, command_of, end, ends_talk, fail, fetch, flush, handshake_items, hello, info, mutate, push, signal, speaker_after, talk_from, unknown}
use Rattle.fk_model.specs.Out.{asks_of}
use Rattle.fk_model.proofs.Outs.{asks_of-append}
use Rattle.fk_model.proofs.AskRange.{AreAskable, IsAskable, FitsLine, ack_askable, as_it, batch_askable, beat_askable, fail_askable, fetch_askable, flush_askable, hello_askable, info_askable, mutate_askable, none_askable, push_askable, signal_askable}
use Rattle.fk_model.proofs.Parted.{IsUpTo, behind_up_to, split_up_to}

-- ---- a line

before_hello : (gate : Gate) (command : Command) (text : List ℕ) → AreAskable (handshake_items gate command text)
before_hello gate end text = none_askable
before_hello gate hello text = hello_askable (welcome gate text)
before_hello gate other text = none_askable

command_askable : (wid : List ℕ) (command : Command) (text : List ℕ) (item : Item) → FitsLine text
    → IsGiven wid command text item → AreAskable (item ∷ [])
command_askable wid end text item is given = absurd given
command_askable wid hello text item is given = as_it item _ given none_askable
command_askable wid push text item is given = push_askable text item is given
command_askable wid batch text item is given = batch_askable text item is given
command_askable wid fetch text item is given = fetch_askable wid text item is given
command_askable wid ack text item is given = as_it item _ given (ack_askable (object_read text))
command_askable wid fail text item is given = as_it item _ given (fail_askable (object_read text))
command_askable wid beat text item is given = as_it item _ given (beat_askable (object_read text))
command_askable wid signal text item is given = as_it item _ given (signal_askable (object_read text))
command_askable wid info text item is given = as_it item _ given info_askable
command_askable wid flush text item is given = as_it item _ given flush_askable
command_askable wid mutate text item is given = as_it item _ given (mutate_askable (object_read text))
command_askable wid unknown text item is given = as_it item _ given none_askable

-- one thing is given for a line
abbrev OneGiven : List ℕ → Command → List ℕ → List Item → Type 0
OneGiven wid command text items = (item : Item) × IsGiven wid command text item × (items ≡ item ∷ [])

given_askable : (wid : List ℕ) (command : Command) (text : List ℕ) (items : List Item) → FitsLine text
    → OneGiven wid command text items → AreAskable items
given_askable wid command text items is (item, given, whole) =
    subst AreAskable (sym whole) (command_askable wid command text item is given)

all_given_askable : (wid : List ℕ) (command : Command) (text : List ℕ) (items : List Item) → FitsLine text
    → AreGiven wid command text items → AreAskable items
all_given_askable wid end text items is none = subst AreAskable (sym none) none_askable
all_given_askable wid command text items is given = given_askable wid command text items is given

-- a line whose bytes are no more than a line may have
abbrev IsShort : Line → Type 0
IsShort (Whole line) = FitsLine line
IsShort Need = Unit {0}
IsShort TooLong = Unit {0}

items_askable : (gate : Gate) (speaker : Option (List ℕ)) (line : Line) (items : List Item) → IsShort line
    → AreItemsOf gate speaker line items → AreAskable items
unfolding AreItemsOf
items_askable gate speaker TooLong items is same = subst AreAskable (sym same) none_askable
items_askable gate speaker Need items is none = subst AreAskable (sym none) none_askable
items_askable gate None (Whole line) items is same =
    subst AreAskable (sym same) (before_hello gate (command_of line) (arguments line))
items_askable gate (Some wid) (Whole line) items is given =
    all_given_askable wid (command_of line) (arguments line) items (behind_up_to is_space longest_line line is) given

pub line_in_range : (gate : Gate) (speaker : Option (List ℕ)) (line : List ℕ) (ask : Ask) → AreBytes line
    → length line ≤ longest_line → AreItemsOf gate speaker (Whole line) (Asks ask ∷ []) → HasJsonTexts ask
    → IsInRange ask
line_in_range gate speaker line ask are short given =
    All-head IsAskable ask []
    (items_askable gate speaker (Whole line) (Asks ask ∷ []) (record { bytes = are; short = short }) given)

-- ---- a script

return_shorter : (line : List ℕ) (ends : Bool)
    → length (if ends then take (length line - 1) line else line) ≤ length line
return_shorter line true = omega (arith, length-take (length line - 1) line)
return_shorter line false = omega arith

return_bytes : (line : List ℕ) (ends : Bool) → AreBytes line
    → AreBytes (if ends then take (length line - 1) line else line)
return_bytes line true are = All-take (λ b. b < 256) (length line - 1) line are
return_bytes line false are = are

without_shorter : (part : List ℕ) → length (without_return part) ≤ length part
without_shorter part = return_shorter part _

-- the line of a part of a stream
of_part : (part : List ℕ) → FitsLine part → FitsLine (without_return part)
of_part part is = record {
  bytes = return_bytes part _ is.bytes;
  short = omega (arith, is.short, without_shorter part);
}

-- the first line of a stream is no longer than a line may be
pub first_line_short : (stream line rest : List ℕ) → IsFirstLine stream line rest → length line ≤ longest_line
first_line_short stream line rest is =
    omega (arith, is.fits, ap length is.front, without_shorter (front_of stream))

part_line : (part : List ℕ) (long : Bool) → is_too_long part ≡ long → AreBytes part
    → IsShort (if long then TooLong else Whole (without_return part))
part_line part true is are = tt
part_line part false is are =
    of_part part
    (record { bytes = are; short = omega (arith, ltb-false longest_line (length part) is) })

last_line : (long : Bool) → All IsShort (if long then TooLong ∷ [] else [])
last_line true = All-cons IsShort TooLong [] tt (All-nil IsShort)
last_line false = All-nil IsShort

lines_are : (parts : List (List ℕ)) → All AreBytes parts → All IsShort (lines_in parts)
lines_are [] are = All-nil IsShort
lines_are (last ∷ []) are = last_line (is_too_long last)
lines_are (part ∷ next ∷ parts) are =
    All-cons IsShort (line_of part) (lines_in (next ∷ parts))
    (part_line part (is_too_long part) refl (All-head AreBytes part (next ∷ parts) are))
    (lines_are (next ∷ parts) (All-tail AreBytes part (next ∷ parts) are))

-- so are those up to the first that ends the talk
behind_are : (ends : Bool) (behind : List Line) → All IsShort behind → All IsShort (if ends then [] else behind)
behind_are true behind are = All-nil IsShort
behind_are false behind are = are

talk_is : (gate : Gate) (speaker : Option (List ℕ)) (lines : List Line) → All IsShort lines
    → All IsShort (talk_from gate speaker lines)
talk_is gate speaker [] are = All-nil IsShort
talk_is gate speaker (line ∷ lines) are =
    let behind = talk_from gate (speaker_after gate speaker line) lines in
    All-cons IsShort line (if ends_talk gate speaker line then [] else behind) (All-head IsShort line lines are)
    (behind_are (ends_talk gate speaker line) behind
    (talk_is gate (speaker_after gate speaker line) lines (All-tail IsShort line lines are)))

lines_askable : (gate : Gate) (speaker : Option (List ℕ)) (lines : List Line) (items : List Item)
    → All IsShort lines → AreItemsFrom gate speaker lines items → AreAskable items
lines_askable gate speaker [] items are none = subst AreAskable (sym none) none_askable
lines_askable gate speaker (line ∷ lines) items are (first, others, is, given, whole) =
    let both : All IsAskable (asks_of first ++ asks_of others) =
    All-append IsAskable (asks_of first) (asks_of others)
    (items_askable gate speaker line first (All-head IsShort line lines are) is)
    (lines_askable gate (speaker_after gate speaker line) lines others (All-tail IsShort line lines are) given) in
    subst AreAskable (sym whole) (subst (All IsAskable) (sym (asks_of-append first others)) both)

pub script_in_range : (gate : Gate) (bytes : List ℕ) (items : List Item) → AreBytes bytes
    → IsScript gate bytes items → All (λ ask. HasJsonTexts ask → IsInRange ask) (asks_of items)
script_in_range gate bytes items are given =
    lines_askable gate None (talk_from gate None (lines_of bytes)) items
    (talk_is gate None (lines_of bytes)
    (lines_are (slice_split is_line_feed bytes)
    (All-weaker (IsUpTo (length bytes)) AreBytes (λ part is. is.bytes) (slice_split is_line_feed bytes)
    (split_up_to is_line_feed (length bytes) bytes (record { bytes = are; short = omega arith })))))
    given
