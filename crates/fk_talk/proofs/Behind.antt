-- What a line does behind an accepted HELLO, by what it asks for.
use Rattle.std.proofs.Common.{◌≡◌, ◌∙◌, arith, refl, sym, ap, ℕ, Bool, true, false, List, [], ◌∷◌, if◌then◌else◌, codes, length, None, Some}
use Rattle.fk_frame.specs.declared.line_reader.Line.TheVariants.{Whole}
use Rattle.fk_model.specs.declared.gate.Gate.{Gate}
use Rattle.fk_model.specs.declared.item.Item.{Item}
use Rattle.fk_model.specs.Commands.{arguments, has_verb}
use Rattle.fk_model.specs.Script.{AreGiven, AreItemsOf, Command, command_of, ends_talk, end, hello, push, batch, fetch, ack, fail, beat, signal, info, flush, mutate, unknown}
use Rattle.fk_talk.specs.declared.line.Heard.{Heard}
use Rattle.fk_talk.specs.declared.standing.Standing.TheVariants.{Over, Somebody}
use Rattle.fk_talk.specs.Hearing.{Does}

abbrev pub is_end : Command → Bool
is_end end = true
is_end other = false

or_not : (said : Bool) (one other : Command) → is_end one ≡ false → is_end other ≡ false
    → is_end (if said then one else other) ≡ false
or_not true one other is_one is_other = is_one
or_not false one other is_one is_other = is_other

or_else : (said : Bool) (other : Command) → is_end other ≡ false → is_end (if said then end else other) ≡ said
or_else true other is_other = refl
or_else false other is_other = is_other

-- the line's verb is END just where it is its command
pub is_end-of : (line : List ℕ) → is_end (command_of line) ≡ has_verb (codes "END") line
is_end-of line =
    or_else (has_verb (codes "END") line) _
    (or_not (has_verb (codes "HELLO") line) hello _ refl
    (or_not (has_verb (codes "PUSH") line) push _ refl
    (or_not (has_verb (codes "PUSHB") line) batch _ refl
    (or_not (has_verb (codes "FETCH") line) fetch _ refl
    (or_not (has_verb (codes "ACK") line) ack _ refl
    (or_not (has_verb (codes "FAIL") line) fail _ refl
    (or_not (has_verb (codes "BEAT") line) beat _ refl
    (or_not (has_verb (codes "SIGNAL") line) signal _ refl
    (or_not (has_verb (codes "INFO") line) info _ refl
    (or_not (has_verb (codes "FLUSH") line) flush _ refl
    (or_not (has_verb (codes "MUTATE") line) mutate unknown refl refl)))))))))))

some_items : (item : Item) (items : List Item) → [] ≡ item ∷ items → ⊥
some_items item items none = omega (arith, ap length none)

-- a command gives nothing just where it is END
none_given : (wid : List ℕ) (command : Command) (text : List ℕ) → AreGiven wid command text []
    → is_end command ≡ true
none_given wid end text are = refl
none_given wid hello text (item, given, are) = absurd (some_items item [] are)
none_given wid push text (item, given, are) = absurd (some_items item [] are)
none_given wid batch text (item, given, are) = absurd (some_items item [] are)
none_given wid fetch text (item, given, are) = absurd (some_items item [] are)
none_given wid ack text (item, given, are) = absurd (some_items item [] are)
none_given wid fail text (item, given, are) = absurd (some_items item [] are)
none_given wid beat text (item, given, are) = absurd (some_items item [] are)
none_given wid signal text (item, given, are) = absurd (some_items item [] are)
none_given wid info text (item, given, are) = absurd (some_items item [] are)
none_given wid flush text (item, given, are) = absurd (some_items item [] are)
none_given wid mutate text (item, given, are) = absurd (some_items item [] are)
none_given wid unknown text (item, given, are) = absurd (some_items item [] are)

one_given : (wid : List ℕ) (command : Command) (text : List ℕ) (item : Item)
    → AreGiven wid command text (item ∷ []) → is_end command ≡ false
one_given wid end text item are = absurd (some_items item [] (sym are))
one_given wid hello text item are = refl
one_given wid push text item are = refl
one_given wid batch text item are = refl
one_given wid fetch text item are = refl
one_given wid ack text item are = refl
one_given wid fail text item are = refl
one_given wid beat text item are = refl
one_given wid signal text item are = refl
one_given wid info text item are = refl
one_given wid flush text item are = refl
one_given wid mutate text item are = refl
one_given wid unknown text item are = refl

-- END ends the talk
pub somebody_ends : (gate : Gate) (wid line : List ℕ) (heard : Heard)
    → AreGiven wid (command_of line) (arguments line) [] → heard.item ≡ None → heard.standing ≡ Some Over
    → Does gate (Somebody wid) (Whole line) heard
unfolding AreItemsOf ends_talk
somebody_ends gate wid line heard given none over =
    let ends = sym (is_end-of line) ∙ none_given wid (command_of line) (arguments line) given in
    record { items = rw none given; comes = rw (over, ends) refl }

-- any other line is answered, or asks for a turn, and the talk goes on
pub somebody_goes_on : (gate : Gate) (wid line : List ℕ) (item : Item) (heard : Heard)
    → AreGiven wid (command_of line) (arguments line) (item ∷ []) → heard.item ≡ Some item
    → heard.standing ≡ None → Does gate (Somebody wid) (Whole line) heard
unfolding AreItemsOf ends_talk
somebody_goes_on gate wid line item heard given one stays =
    let going = sym (is_end-of line) ∙ one_given wid (command_of line) (arguments line) item given in
    record { items = rw one given; comes = rw (stays, going) refl }
