-- The script of a stream, after Faktory's protocol specification: what the server replies of its own, and
-- what turns the stream asks for, on a connection of its own. The texts of errors, the answer to a second
-- HELLO, and the longest line are this server's own.
use Rattle.std.specs.Prelude.{◌≡◌, ℕ, true, List, [], ◌∷◌, ◌++◌, ◌||◌, Bool, false, codes, if◌then◌else◌, Option, None, Some}
use Rattle.fk_frame.specs.declared.line_reader.Line.{Line}
use Rattle.fk_frame.specs.declared.line_reader.Line.TheVariants.{Whole, Need, TooLong}
use Rattle.fk_frame.specs.Lines.{lines_of}
use Rattle.fk_model.specs.declared.ask.Ask.TheVariants.{Hello, Info, Flush}
use Rattle.fk_model.specs.declared.gate.Gate.{Gate}
use Rattle.fk_model.specs.declared.item.Item.{Item}
use Rattle.fk_model.specs.declared.item.Item.TheVariants.{Asks}
use Rattle.fk_model.specs.Commands.{arguments, has_verb}
use Rattle.fk_model.specs.Payloads.{IsAcknowledged, IsBatch, IsBeat, IsFetched, IsPushed, IsReported, IsSignal, accepted, is_some_text, refused}
use Rattle.fk_model.specs.Mutations.{IsMutation}
use Rattle.fk_model.specs.Handshake.{Welcome, let_in, turned_away, welcome}

-- ---- a command

-- what a line asks for, by its verb
pub data Command : Type 0 where
  end : Command
  hello : Command
  push : Command
  batch : Command
  fetch : Command
  ack : Command
  fail : Command
  beat : Command
  signal : Command
  info : Command
  flush : Command
  mutate : Command
  unknown : Command

abbrev pub command_of : List ℕ → Command
command_of line =
    if has_verb (codes "END") line then end else
    (if has_verb (codes "HELLO") line then hello else
    (if has_verb (codes "PUSH") line then push else
    (if has_verb (codes "PUSHB") line then batch else
    (if has_verb (codes "FETCH") line then fetch else
    (if has_verb (codes "ACK") line then ack else
    (if has_verb (codes "FAIL") line then fail else
    (if has_verb (codes "BEAT") line then beat else
    (if has_verb (codes "SIGNAL") line then signal else
    (if has_verb (codes "INFO") line then info else
    (if has_verb (codes "FLUSH") line then flush else
    (if has_verb (codes "MUTATE") line then mutate else unknown)))))))))))

-- ---- before a HELLO was accepted

-- what is answered to another command
abbrev pub hello_first : Item
hello_first = refused (codes "HELLO first")

-- what a HELLO gives: that of a worker, once it is let in, asks for a turn; a producer's is answered at once
abbrev pub hello_item : Welcome → Item
hello_item (turned_away reason) = refused reason
hello_item (let_in wid) = if is_some_text wid then Asks (Hello wid) else accepted

-- what a command with these arguments gives: nothing for END
abbrev pub handshake_items : Gate → Command → List ℕ → List Item
handshake_items gate end arguments = []
handshake_items gate hello arguments = hello_item (welcome gate arguments) ∷ []
handshake_items gate other arguments = hello_first ∷ []

-- who is let in by it: nobody, or the worker of a wid, or a producer, whose wid is empty
abbrev pub let_in_by : Welcome → Option (List ℕ)
let_in_by (turned_away reason) = None
let_in_by (let_in wid) = Some wid

abbrev pub let_in_after : Gate → Command → List ℕ → Option (List ℕ)
let_in_after gate hello arguments = let_in_by (welcome gate arguments)
let_in_after gate other arguments = None

-- it is refused
abbrev pub is_refusal : Welcome → Bool
is_refusal (turned_away reason) = true
is_refusal (let_in wid) = false

-- a command ends the talk: END does, and a HELLO that is refused
abbrev pub ends_handshake : Gate → Command → List ℕ → Bool
ends_handshake gate end arguments = true
ends_handshake gate hello arguments = is_refusal (welcome gate arguments)
ends_handshake gate other arguments = false

-- ---- behind an accepted HELLO

-- what a command gives to the worker of a wid, or to a producer, whose wid is empty
abbrev pub IsGiven : List ℕ → Command → List ℕ → Item → Type 0
IsGiven wid end arguments item = ⊥
IsGiven wid hello arguments item = item ≡ refused (codes "Already said HELLO")
IsGiven wid push arguments item = IsPushed arguments item
IsGiven wid batch arguments item = IsBatch arguments item
IsGiven wid fetch arguments item = IsFetched wid arguments item
IsGiven wid ack arguments item = IsAcknowledged arguments item
IsGiven wid fail arguments item = IsReported arguments item
IsGiven wid beat arguments item = IsBeat arguments item
IsGiven wid signal arguments item = IsSignal arguments item
IsGiven wid info arguments item = item ≡ Asks Info
IsGiven wid flush arguments item = item ≡ Asks Flush
IsGiven wid mutate arguments item = IsMutation arguments item
IsGiven wid unknown arguments item = item ≡ refused (codes "Unknown command")

-- END gives nothing, and each other command one item
abbrev pub AreGiven : List ℕ → Command → List ℕ → List Item → Type 0
AreGiven wid end arguments items = items ≡ []
AreGiven wid command arguments items =
    (item : Item) × IsGiven wid command arguments item × (items ≡ item ∷ [])

-- ---- a line

-- what is answered to a line that is too long
abbrev pub too_long : Item
too_long = refused (codes "Line too long")

-- what a line gives, none or one, where nobody was let in before it, or somebody of this wid was. `Need` is
-- no line of a stream: it gives nothing, and ends nothing
unfoldable pub AreItemsOf : Gate → Option (List ℕ) → Line → List Item → Type 0
AreItemsOf gate speaker TooLong items = items ≡ too_long ∷ []
AreItemsOf gate speaker Need items = items ≡ []
AreItemsOf gate None (Whole line) items =
    items ≡ handshake_items gate (command_of line) (arguments line)
AreItemsOf gate (Some wid) (Whole line) items =
    AreGiven wid (command_of line) (arguments line) items

-- who was let in behind a line: the first HELLO that is accepted stands
unfoldable pub speaker_after : Gate → Option (List ℕ) → Line → Option (List ℕ)
speaker_after gate (Some wid) line = Some wid
speaker_after gate None TooLong = None
speaker_after gate None Need = None
speaker_after gate None (Whole line) = let_in_after gate (command_of line) (arguments line)

-- a line ends the talk: it says END, it is too long, or it is a HELLO that is refused, where none was
-- accepted before
unfoldable pub ends_talk : Gate → Option (List ℕ) → Line → Bool
ends_talk gate speaker TooLong = true
ends_talk gate speaker Need = false
ends_talk gate None (Whole line) = ends_handshake gate (command_of line) (arguments line)
ends_talk gate (Some wid) (Whole line) = has_verb (codes "END") line

-- ---- a talk

-- the lines up to the first that ends the talk, that one among them
abbrev pub talk_from : Gate → Option (List ℕ) → List Line → List Line
talk_from gate speaker [] = []
talk_from gate speaker (line ∷ lines) =
    line ∷ (if ends_talk gate speaker line then [] else talk_from gate (speaker_after gate speaker line) lines)

-- one of the lines ends the talk
abbrev pub has_end : Gate → Option (List ℕ) → List Line → Bool
has_end gate speaker [] = false
has_end gate speaker (line ∷ lines) =
    ends_talk gate speaker line || has_end gate (speaker_after gate speaker line) lines

-- what lines give, one behind the other
abbrev pub AreItemsFrom : Gate → Option (List ℕ) → List Line → List Item → Type 0
AreItemsFrom gate speaker [] items = items ≡ []
AreItemsFrom gate speaker (line ∷ lines) items =
    (first others : List Item) × AreItemsOf gate speaker line first
    × AreItemsFrom gate (speaker_after gate speaker line) lines others × (items ≡ first ++ others)

-- what a stream gives: its lines are cut behind the first that ends the talk, and a last line without its
-- end is ignored, unless it is too long
abbrev pub IsScript : Gate → List ℕ → List Item → Type 0
IsScript gate bytes items = AreItemsFrom gate None (talk_from gate None (lines_of bytes)) items

-- the talk has ended, in the lines of these bytes
abbrev pub IsOver : Gate → List ℕ → Type 0
IsOver gate bytes = has_end gate None (lines_of bytes) ≡ true
