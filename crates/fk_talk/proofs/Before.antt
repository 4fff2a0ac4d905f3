-- What a line does before a HELLO was accepted, by what it asks for.
use Rattle.std.proofs.Common.{◌≡◌, ◌≢◌, refl, ℕ, List, if◌then◌else◌, None, Some}
use Rattle.std.specs.Prelude.{IfOk, Result, Ok, Err}
use Rattle.fk_command.specs.declared.verb.Verb.{Verb}
use Rattle.fk_command.specs.declared.verb.Verb.TheVariants as verbs
use Rattle.fk_command.specs.Verbs.{command}
use Rattle.fk_frame.specs.declared.line_reader.Line.TheVariants.{Whole}
use Rattle.fk_model.specs.declared.gate.Gate.{Gate}
use Rattle.fk_model.specs.Commands.{arguments}
use Rattle.fk_model.specs.Handshake.{Welcome, let_in, turned_away, welcome}
use Rattle.fk_model.specs.Script.{AreItemsOf, Command, command_of, ends_talk, speaker_after, end, hello, hello_first, hello_item, is_refusal, let_in_by, push, batch, fetch, ack, fail, beat, signal, info, flush, mutate, unknown}
use Rattle.fk_talk.specs.declared.line.Heard.{Heard}
use Rattle.fk_talk.specs.declared.standing.Standing.TheVariants.{Nobody, Over}
use Rattle.fk_talk.specs.Hearing.{Does, standing_by, standing_of}

-- END ends the talk
pub nobody_ends : (gate : Gate) (line : List ℕ) (heard : Heard) → end ≡ command_of line
    → heard.item ≡ None → heard.standing ≡ Some Over → Does gate Nobody (Whole line) heard
unfolding AreItemsOf ends_talk speaker_after
nobody_ends gate line heard is none over =
    record { items = rw (none, ← is) refl; comes = rw (over, ← is) refl }

-- a HELLO is accepted, or ends the talk
by_hello : (told : Welcome) → standing_by told ≡ (if is_refusal told then Over else standing_of (let_in_by told))
by_hello (turned_away reason) = refl
by_hello (let_in wid) = refl

pub nobody_greets : (gate : Gate) (line : List ℕ) (told : Welcome) (heard : Heard) → hello ≡ command_of line
    → told ≡ welcome gate (arguments line) → heard.item ≡ Some (hello_item told)
    → heard.standing ≡ Some (standing_by told) → Does gate Nobody (Whole line) heard
unfolding AreItemsOf ends_talk speaker_after
nobody_greets gate line told heard is becomes item standing =
    record {
      items = rw (item, ← is, becomes) refl;
      comes = rw (standing, ← is, becomes) (by_hello (welcome gate (arguments line)));
    }

pub nobody_greeted : {E : Type 0} (gate : Gate) (line : List ℕ) (told : Welcome) (result : Result Heard E)
    → hello ≡ command_of line → told ≡ welcome gate (arguments line)
    → IfOk result (λ heard. heard.item ≡ Some (hello_item told))
    → IfOk result (λ heard. heard.standing ≡ Some (standing_by told))
    → IfOk result (λ heard. Does gate Nobody (Whole line) heard)
nobody_greeted gate line told (Ok heard) is becomes item standing =
    nobody_greets gate line told heard is becomes item standing
nobody_greeted gate line told (Err fault) is becomes item standing = tt

-- a command that says HELLO first, or is to
abbrev pub IsOther : Command → Type 0
IsOther end = ⊥
IsOther hello = ⊥
IsOther other = Unit {0}

-- any other line is refused
other_does : (gate : Gate) (line : List ℕ) (other : Command) (heard : Heard) → IsOther other
    → other ≡ command_of line → heard.item ≡ Some hello_first → heard.standing ≡ None
    → Does gate Nobody (Whole line) heard
unfolding AreItemsOf ends_talk speaker_after
other_does gate line end heard not_it is item stays = absurd not_it
other_does gate line hello heard not_it is item stays = absurd not_it
other_does gate line other heard it is item stays =
    record { items = rw (item, ← is) refl; comes = rw (stays, ← is) refl }

pub nobody_is_refused : (gate : Gate) (line : List ℕ) (verb : Verb) (heard : Heard) → verb ≢ verbs.End
    → verb ≢ verbs.Hello → command verb ≡ command_of line → heard.item ≡ Some hello_first → heard.standing ≡ None
    → Does gate Nobody (Whole line) heard
nobody_is_refused gate line verbs.End heard no_end no_hello is item stays = absurd (no_end refl)
nobody_is_refused gate line verbs.Hello heard no_end no_hello is item stays = absurd (no_hello refl)
nobody_is_refused gate line verbs.Push heard no_end no_hello is item stays =
    other_does gate line push heard tt is item stays
nobody_is_refused gate line verbs.Batch heard no_end no_hello is item stays =
    other_does gate line batch heard tt is item stays
nobody_is_refused gate line verbs.Fetch heard no_end no_hello is item stays =
    other_does gate line fetch heard tt is item stays
nobody_is_refused gate line verbs.Ack heard no_end no_hello is item stays =
    other_does gate line ack heard tt is item stays
nobody_is_refused gate line verbs.Fail heard no_end no_hello is item stays =
    other_does gate line fail heard tt is item stays
nobody_is_refused gate line verbs.Beat heard no_end no_hello is item stays =
    other_does gate line beat heard tt is item stays
nobody_is_refused gate line verbs.Signal heard no_end no_hello is item stays =
    other_does gate line signal heard tt is item stays
nobody_is_refused gate line verbs.Info heard no_end no_hello is item stays =
    other_does gate line info heard tt is item stays
nobody_is_refused gate line verbs.Flush heard no_end no_hello is item stays =
    other_does gate line flush heard tt is item stays
nobody_is_refused gate line verbs.Mutate heard no_end no_hello is item stays =
    other_does gate line mutate heard tt is item stays
nobody_is_refused gate line verbs.Unknown heard no_end no_hello is item stays =
    other_does gate line unknown heard tt is item stays
