-- Each list of lines gives something: a job's text, an object and an array are decided, so that a PUSH
-- and a PUSHB always ask for a turn or are refused.
use Rattle.std.proofs.Common.{◌≡◌, ◌⊎◌, ℕ, List, [], ◌∷◌, ◌++◌, Option, None, Some, slice_range, codes, refl, subst, inl, inr}
use Rattle.std.specs.Option.{MatchOption, option_map_or}
use Rattle.fk_json.proofs.OnePlace.{text_not_deep}
use Rattle.fk_json.specs.declared.member.Member.{Member}
use Rattle.fk_json.specs.declared.span.Span.{Span}
use Rattle.fk_json.specs.Json.{FailsAt, IsArrayText, IsObjectText, IsTooDeepAt, most_levels}
use Rattle.fk_json.specs.String.{IsString}
use Rattle.fk_frame.specs.declared.line_reader.Line.{Line}
use Rattle.fk_frame.specs.declared.line_reader.Line.TheVariants.{Whole, Need, TooLong}
use Rattle.fk_job.specs.declared.fault.JobFault.{JobFault}
use Rattle.fk_job.specs.declared.job.Job.{Job}
use Rattle.fk_job.specs.JobText.{HasFault, HasJid, IsJobOf}
use Rattle.fk_job.specs.Members.{value_of}
use Rattle.fk_model.specs.declared.ask.Ask.TheVariants.{Push, PushBatch, Fetch, Info, Flush}
use Rattle.fk_model.specs.declared.gate.Gate.{Gate}
use Rattle.fk_model.specs.declared.item.Item.{Item}
use Rattle.fk_model.specs.declared.item.Item.TheVariants.{Asks}
use Rattle.fk_model.specs.Commands.{arguments}
use Rattle.fk_model.specs.Payloads.{Element, taken, barred, fault_text, refused, acknowledged, reported, batch_text, jobs_among, object_read, queue_names, HasKey, IsElement, AreElements, IsPushed, IsBatch, beat as beat_item, signal as signal_item}
use Rattle.fk_model.specs.Mutations.{mutation}
use Rattle.fk_model.specs.Script.{Command, end, hello, push, batch, fetch, ack, fail, beat, signal, info, flush, mutate, unknown, command_of, handshake_items, too_long, speaker_after, AreGiven, AreItemsOf, AreItemsFrom}

-- ---- what is decided of texts

-- an object or none, or it goes too deep
abbrev pub ObjectDecided : List ℕ → Type 0
ObjectDecided text =
    ((members : List Member) × IsObjectText most_levels text members)
    ⊎ (((at : ℕ) × FailsAt IsObjectText text at) ⊎ ((at : ℕ) × IsTooDeepAt IsObjectText text at))

-- an array or none, or it goes too deep
abbrev pub ArrayDecided : List ℕ → Type 0
ArrayDecided text =
    ((elements : List Span) × IsArrayText most_levels text elements)
    ⊎ (((at : ℕ) × FailsAt IsArrayText text at) ⊎ ((at : ℕ) × IsTooDeepAt IsArrayText text at))

-- a string or none
abbrev pub StringDecided : List ℕ → Type 0
StringDecided text =
    ((decoded : List ℕ) × IsString text decoded) ⊎ ((decoded : List ℕ) → ¬ IsString text decoded)

-- a job, or a fault
abbrev pub JobDecided : List ℕ → Type 0
JobDecided text = ((job : Job) × IsJobOf text job) ⊎ ((fault : JobFault) × HasFault text fault)

-- Each text is decided, and an object's members are one list.
pub record Laws : Type 0 where
  pub jobs : (text : List ℕ) → JobDecided text
  pub objects : (text : List ℕ) → ObjectDecided text
  pub arrays : (text : List ℕ) → ArrayDecided text
  pub strings : (text : List ℕ) → StringDecided text
  pub one_object : (text : List ℕ) (one other : List Member) → IsObjectText most_levels text one
      → IsObjectText most_levels text other → one ≡ other

-- ---- a PUSH

pushed_as : (arguments : List ℕ) → JobDecided arguments → (item : Item) × IsPushed arguments item
pushed_as arguments (inl (job, is)) = (Asks (Push job), inl (job, is, refl))
pushed_as arguments (inr (fault, has)) = (refused (fault_text fault), inr (fault, has, refl))

pub push_total : Laws → (arguments : List ℕ) → (item : Item) × IsPushed arguments item
push_total laws arguments = pushed_as arguments (laws.jobs arguments)

-- ---- a key

-- an object has one jid at the most
no_jid : Laws → (text : List ℕ) (members : List Member) → IsObjectText most_levels text members
    → ¬ HasJid text members
    → (other : List Member) → IsObjectText most_levels text other → ¬ HasJid text other
no_jid laws text members is none other is_other =
    subst (λ all. ¬ HasJid text all) (laws.one_object text members other is is_other) none

-- a value is a string, or none
string_or_none : Laws → (value : Option (List ℕ))
    → ((decoded : List ℕ) × MatchOption value ⊥ (λ value. IsString value decoded))
    ⊎ ¬ ((decoded : List ℕ) × MatchOption value ⊥ (λ value. IsString value decoded))
string_or_none laws None = inr (λ (decoded, is). is)
string_or_none laws (Some value) =
    elim (laws.strings value) [
      | inl found ↦ inl found
      | inr none ↦ inr (λ (decoded, is). none decoded is)
    ]

key_of_object : Laws → (text : List ℕ) (members : List Member) → IsObjectText most_levels text members
    → HasJid text members ⊎ ¬ HasJid text members → (key : List ℕ) × HasKey text key
key_of_object laws text members is (inl (jid, has)) = (jid, inl (members, is, has))
key_of_object laws text members is (inr none) = ([], inr (refl, no_jid laws text members is none))

key_as : Laws → (text : List ℕ) → ObjectDecided text → (key : List ℕ) × HasKey text key
key_as laws text (inl (members, is)) =
    key_of_object laws text members is (string_or_none laws (value_of text members (codes "jid")))
key_as laws text (inr (inl (at, fails))) =
    ([], inr (refl, λ members is. absurd (fails.none most_levels members is)))
key_as laws text (inr (inr (at, deep))) =
    ([], inr (refl, λ members is. absurd (text_not_deep IsObjectText text members at is deep)))

pub key_total : Laws → (text : List ℕ) → (key : List ℕ) × HasKey text key
key_total laws text = key_as laws text (laws.objects text)

-- ---- a batch

element_as : Laws → (text : List ℕ) → JobDecided text → (element : Element) × IsElement text element
element_as laws text (inl (job, is)) = (taken job, is)
element_as laws text (inr (fault, has)) =
    let found = key_total laws text in (barred found.0 (fault_text fault), (fault, has, found.1, refl))

elements_total : Laws → (text : List ℕ) (spans : List Span) → (elements : List Element) × AreElements text spans elements
elements_total laws text [] = ([], tt)
elements_total laws text (span ∷ spans) =
    let piece = slice_range text span.from span.to in
    let first = element_as laws piece (laws.jobs piece) in
    let others = elements_total laws text spans in
    (first.0 ∷ others.0, (first.1, others.1))

batch_as : Laws → (arguments : List ℕ) → ArrayDecided arguments → (item : Item) × IsBatch arguments item
batch_as laws arguments (inl (spans, is)) =
    let found = elements_total laws arguments spans in (
      Asks (PushBatch (jobs_among found.0) (batch_text found.0)),
      inl (spans, found.0, is, found.1, refl),
    )
batch_as laws arguments (inr (inl (at, fails))) = (refused (codes "Bad JSON"), inr (inl (at, fails, refl)))
batch_as laws arguments (inr (inr (at, deep))) = (refused (codes "JSON too deep"), inr (inr (at, deep, refl)))

pub batch_total : Laws → (arguments : List ℕ) → (item : Item) × IsBatch arguments item
batch_total laws arguments = batch_as laws arguments (laws.arrays arguments)

-- ---- lines

given_total : Laws → (wid : List ℕ) (command : Command) (arguments : List ℕ)
    → (items : List Item) × AreGiven wid command arguments items
given_total laws wid end arguments = ([], refl)
given_total laws wid hello arguments =
    let reply = refused (codes "Already said HELLO") in (reply ∷ [], (reply, refl, refl))
given_total laws wid push arguments =
    let found = push_total laws arguments in (found.0 ∷ [], (found.0, found.1, refl))
given_total laws wid batch arguments =
    let found = batch_total laws arguments in (found.0 ∷ [], (found.0, found.1, refl))
given_total laws wid fetch arguments =
    let item = Asks (Fetch wid (queue_names arguments)) in (item ∷ [], (item, refl, refl))
given_total laws wid ack arguments =
    let item = option_map_or acknowledged (object_read arguments) (refused (codes "Bad JSON")) in
    (item ∷ [], (item, refl, refl))
given_total laws wid fail arguments =
    let item = option_map_or reported (object_read arguments) (refused (codes "Bad JSON")) in
    (item ∷ [], (item, refl, refl))
given_total laws wid beat arguments =
    let item = option_map_or beat_item (object_read arguments) (refused (codes "Bad JSON")) in
    (item ∷ [], (item, refl, refl))
given_total laws wid signal arguments =
    let item = option_map_or signal_item (object_read arguments) (refused (codes "Bad JSON")) in
    (item ∷ [], (item, refl, refl))
given_total laws wid info arguments = (Asks Info ∷ [], (Asks Info, refl, refl))
given_total laws wid flush arguments = (Asks Flush ∷ [], (Asks Flush, refl, refl))
given_total laws wid mutate arguments =
    let item = option_map_or mutation (object_read arguments) (refused (codes "Bad JSON")) in
    (item ∷ [], (item, refl, refl))
given_total laws wid unknown arguments =
    let reply = refused (codes "Unknown command") in (reply ∷ [], (reply, refl, refl))

pub line_total : Laws → (gate : Gate) (speaker : Option (List ℕ)) (line : Line)
    → (items : List Item) × AreItemsOf gate speaker line items
unfolding AreItemsOf
line_total laws gate speaker TooLong = (too_long ∷ [], refl)
line_total laws gate speaker Need = ([], refl)
line_total laws gate None (Whole line) = (handshake_items gate (command_of line) (arguments line), refl)
line_total laws gate (Some wid) (Whole line) = given_total laws wid (command_of line) (arguments line)

pub script_total : Laws → (gate : Gate) (speaker : Option (List ℕ)) (lines : List Line)
    → (items : List Item) × AreItemsFrom gate speaker lines items
script_total laws gate speaker [] = ([], refl)
script_total laws gate speaker (line ∷ lines) =
    let first = line_total laws gate speaker line in
    let others = script_total laws gate (speaker_after gate speaker line) lines in
    (first.0 ++ others.0, (first.0, others.0, first.1, others.1, refl))
