-- A line gives something, or it ends the talk.
use Rattle.std.proofs.Common.{◌≡◌, ◌∙◌, ℕ, ◌<◌, Bool, true, false, List, [], ◌∷◌, ◌++◌, length, Option, None, Some, inl, inr, refl, ap, arith, length-append}
use Rattle.std.specs.Prelude.{◌⊎◌, ◌≢◌}
use Rattle.fk_frame.specs.declared.line_reader.Line.{Line}
use Rattle.fk_frame.specs.declared.line_reader.Line.TheVariants.{Whole, Need, TooLong}
use Rattle.fk_model.specs.declared.gate.Gate.{Gate}
use Rattle.fk_model.specs.declared.item.Item.{Item}
use Rattle.fk_model.specs.Commands.{arguments}
use Rattle.fk_model.specs.Script.{AreGiven, AreItemsFrom, AreItemsOf, Command, ack, batch, beat, command_of, end, ends_handshake, ends_talk, fail, fetch, flush, handshake_items, has_end, hello, info, mutate, push, signal, talk_from, unknown}
use Rattle.fk_talk.specs.declared.standing.Standing.{Standing}
use Rattle.fk_talk.specs.declared.standing.Standing.TheVariants.{Nobody, Somebody, Over}
use Rattle.fk_talk.specs.Advance.{AreDueFrom, ends_from}
use Rattle.fk_talk.proofs.Behind.{is_end, is_end-of}

-- ---- before a HELLO was accepted

some_before : (gate : Gate) (command : Command) (text : List ℕ) → ends_handshake gate command text ≡ false
    → 0 < length (handshake_items gate command text)
some_before gate end text going = cc
some_before gate hello text going = omega arith
some_before gate push text going = omega arith
some_before gate batch text going = omega arith
some_before gate fetch text going = omega arith
some_before gate ack text going = omega arith
some_before gate fail text going = omega arith
some_before gate beat text going = omega arith
some_before gate signal text going = omega arith
some_before gate info text going = omega arith
some_before gate flush text going = omega arith
some_before gate mutate text going = omega arith
some_before gate unknown text going = omega arith

-- ---- behind one

one_is_some : (item : Item) (items : List Item) → items ≡ item ∷ [] → 0 < length items
one_is_some item items is = omega (arith, ap length is)

-- a command that isn't END gives one item
some_behind : (wid : List ℕ) (command : Command) (text : List ℕ) (items : List Item) → is_end command ≡ false
    → AreGiven wid command text items → 0 < length items
some_behind wid end text items going are = cc
some_behind wid hello text items going (item, given, is) = one_is_some item items is
some_behind wid push text items going (item, given, is) = one_is_some item items is
some_behind wid batch text items going (item, given, is) = one_is_some item items is
some_behind wid fetch text items going (item, given, is) = one_is_some item items is
some_behind wid ack text items going (item, given, is) = one_is_some item items is
some_behind wid fail text items going (item, given, is) = one_is_some item items is
some_behind wid beat text items going (item, given, is) = one_is_some item items is
some_behind wid signal text items going (item, given, is) = one_is_some item items is
some_behind wid info text items going (item, given, is) = one_is_some item items is
some_behind wid flush text items going (item, given, is) = one_is_some item items is
some_behind wid mutate text items going (item, given, is) = one_is_some item items is
some_behind wid unknown text items going (item, given, is) = one_is_some item items is

-- ---- a line

some_given : (gate : Gate) (speaker : Option (List ℕ)) (line : List ℕ) (items : List Item)
    → AreItemsOf gate speaker (Whole line) items → ends_talk gate speaker (Whole line) ≡ false
    → 0 < length items
unfolding AreItemsOf ends_talk
some_given gate None line items are going =
    omega (arith, ap length are, some_before gate (command_of line) (arguments line) going)
some_given gate (Some wid) line items are going =
    some_behind wid (command_of line) (arguments line) items (is_end-of line ∙ going) are

-- a line that gives nothing ends the talk
gives_or_ends : (gate : Gate) (speaker : Option (List ℕ)) (line : List ℕ) (items : List Item) (ends : Bool)
    → ends_talk gate speaker (Whole line) ≡ ends → AreItemsOf gate speaker (Whole line) items
    → (0 < length items) ⊎ (ends_talk gate speaker (Whole line) ≡ true)
gives_or_ends gate speaker line items true is are = inr is
gives_or_ends gate speaker line items false is are = inl (some_given gate speaker line items are is)

long_ends : (gate : Gate) (speaker : Option (List ℕ)) → ends_talk gate speaker TooLong ≡ true
unfolding ends_talk
long_ends gate None = refl
long_ends gate (Some wid) = refl

-- ---- the first of some lines

some_first : (items first others : List Item) → items ≡ first ++ others → 0 < length first → 0 < length items
some_first items first others is some = omega (arith, some, ap length is, length-append first others)

from_speaker : (gate : Gate) (speaker : Option (List ℕ)) (line : Line) (lines : List Line) (items : List Item)
    → line ≢ Need → AreItemsFrom gate speaker (talk_from gate speaker (line ∷ lines)) items
    → (0 < length items) ⊎ (has_end gate speaker (line ∷ lines) ≡ true)
from_speaker gate speaker Need lines items whole are = absurd (whole refl)
from_speaker gate speaker TooLong lines items whole are = inr (rw (long_ends gate speaker) refl)
from_speaker gate speaker (Whole line) lines items whole (first, others, given, are, is) =
    elim (gives_or_ends gate speaker line first (ends_talk gate speaker (Whole line)) refl given) [
      | inl some ↦ inl (some_first items first others is some)
      | inr ends ↦ inr (rw ends refl)
    ]

-- something is due to lines, or they end the talk
pub due_or_ends : (gate : Gate) (standing : Standing) (line : Line) (lines : List Line) (items : List Item)
    → line ≢ Need → standing ≢ Over → AreDueFrom gate standing (line ∷ lines) items
    → (0 < length items) ⊎ (ends_from gate standing (line ∷ lines) ≡ true)
due_or_ends gate Nobody line lines items whole going are = from_speaker gate None line lines items whole are
due_or_ends gate (Somebody wid) line lines items whole going are =
    from_speaker gate (Some wid) line lines items whole are
due_or_ends gate Over line lines items whole going are = absurd (going refl)
