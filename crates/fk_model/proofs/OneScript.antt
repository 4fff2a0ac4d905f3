-- Each list of lines gives one list of items at most: the text of a job, of an object and of an array
-- is read as one thing.
use Rattle.std.proofs.Common.{◌≡◌, inl, inr, ℕ, List, [], ◌∷◌, ◌++◌, Option, None, Some, slice_range, codes, refl, sym, ap, subst, ◌∙◌}
use Rattle.fk_json.specs.declared.span.Span.{Span}
use Rattle.fk_json.specs.Json.{IsArrayText, most_levels}
use Rattle.fk_json.proofs.OnePlace.{fails_or_deep, text_no_fault, text_not_deep}
use Rattle.fk_json.proofs.Unique.{one_array, one_object}
use Rattle.fk_frame.specs.declared.line_reader.Line.{Line}
use Rattle.fk_frame.specs.declared.line_reader.Line.TheVariants.{Whole, Need, TooLong}
use Rattle.fk_frame.specs.Lines.{lines_of}
use Rattle.fk_job.proofs.Decided.{fault_none, job_one}
use Rattle.fk_job.proofs.OneFault.{fault_one}
use Rattle.fk_job.proofs.Present.{string_one}
use Rattle.fk_job.specs.Fields.{HasString}
use Rattle.fk_model.specs.declared.ask.Ask.TheVariants.{Push, PushBatch}
use Rattle.fk_model.specs.declared.gate.Gate.{Gate}
use Rattle.fk_model.specs.declared.item.Item.{Item}
use Rattle.fk_model.specs.declared.item.Item.TheVariants.{Asks}
use Rattle.fk_model.specs.Commands.{arguments}
use Rattle.fk_model.specs.Payloads.{AreElements, Element, HasKey, IsBatch, IsElement, IsPushed, barred, batch_text, fault_text, jobs_among, refused, taken}
use Rattle.fk_model.specs.Script.{AreGiven, AreItemsFrom, AreItemsOf, Command, IsGiven, IsScript, ack, batch, beat, command_of, end, fail, fetch, flush, hello, info, mutate, push, signal, speaker_after, talk_from, unknown}
use Rattle.fk_model.proofs.Payload.{laws}
use Rattle.fk_model.proofs.Total.{script_total}

-- ---- a PUSH

pub push_one : (text : List ℕ) (one other : Item) → IsPushed text one → IsPushed text other → one ≡ other
push_one text one other (inl (job, is, gives)) (inl (found, also, given)) =
    gives ∙ ap (λ j. Asks (Push j)) (job_one text job found is also) ∙ sym given
push_one text one other (inl (job, is, gives)) (inr (fault, has, given)) =
    absurd (fault_none text job fault is has)
push_one text one other (inr (fault, has, gives)) (inl (job, is, given)) =
    absurd (fault_none text job fault is has)
push_one text one other (inr (fault, has, gives)) (inr (later, also, given)) =
    gives ∙ ap (λ f. refused (fault_text f)) (fault_one text fault later has also) ∙ sym given

-- ---- a batch

-- the key of an element
key_one : (text one other : List ℕ) → HasKey text one → HasKey text other → one ≡ other
key_one text one other (inl (members, is, has)) (inl (others, also, found)) =
    let same = one_object most_levels most_levels text others members also is in
    string_one text members (codes "jid") one other has
    (subst (λ m. HasString text m (codes "jid") other) same found)
key_one text one other (inl (members, is, has)) (inr (empty, none)) = absurd (none members is (one, has))
key_one text one other (inr (empty, none)) (inl (members, is, has)) = absurd (none members is (other, has))
key_one text one other (inr (empty, none)) (inr (also, no_other)) = empty ∙ sym also

barred_same : (key early reason late : List ℕ) → key ≡ early → reason ≡ late → barred key reason ≡ barred early late
barred_same key early reason late keys reasons = rw (keys, reasons) refl

element_one : (text : List ℕ) (one other : Element) → IsElement text one → IsElement text other → one ≡ other
element_one text (taken job) (taken found) is also = ap (λ j. taken j) (job_one text job found is also)
element_one text (taken job) (barred key reason) is (fault, has, keyed, worded) =
    absurd (fault_none text job fault is has)
element_one text (barred key reason) (taken job) (fault, has, keyed, worded) is =
    absurd (fault_none text job fault is has)
element_one text (barred key reason) (barred early late) (fault, has, keyed, worded) (other, also, named, told) =
    barred_same key early reason late (key_one text key early keyed named)
    (worded ∙ ap fault_text (fault_one text fault other has also) ∙ sym told)

elements_same : (first early : Element) (others late : List Element) → first ≡ early → others ≡ late
    → first ∷ others ≡ early ∷ late
elements_same first early others late heads tails = rw (heads, tails) refl

elements_one : (text : List ℕ) (spans : List Span) (one other : List Element) → AreElements text spans one
    → AreElements text spans other → one ≡ other
elements_one text [] [] [] is also = refl
elements_one text [] [] (late ∷ others) is also = absurd also
elements_one text [] (early ∷ ones) other is also = absurd is
elements_one text (span ∷ spans) [] other is also = absurd is
elements_one text (span ∷ spans) (early ∷ ones) [] is also = absurd also
elements_one text (span ∷ spans) (early ∷ ones) (late ∷ others) is also =
    elements_same early late ones others
    (element_one (slice_range text span.from span.to) early late is.0 also.0)
    (elements_one text spans ones others is.1 also.1)

pub batch_one : (text : List ℕ) (one other : Item) → IsBatch text one → IsBatch text other → one ≡ other
batch_one text one other (inl (spans, ones, is, are, gives)) (inl (places, others, also, read, given)) =
    let same = one_array most_levels most_levels text places spans also is in
    let elements = elements_one text spans ones others are (subst (λ s. AreElements text s others) same read) in
    gives ∙ ap (λ e. Asks (PushBatch (jobs_among e) (batch_text e))) elements ∙ sym given
batch_one text one other (inl (spans, ones, is, are, gives)) (inr (inl (at, fails, given))) =
    absurd (text_no_fault IsArrayText text spans at is fails)
batch_one text one other (inl (spans, ones, is, are, gives)) (inr (inr (at, deep, given))) =
    absurd (text_not_deep IsArrayText text spans at is deep)
batch_one text one other (inr (inl (at, fails, gives))) (inl (spans, others, is, are, given)) =
    absurd (text_no_fault IsArrayText text spans at is fails)
batch_one text one other (inr (inl (at, fails, gives))) (inr (inl (place, stops, given))) = gives ∙ sym given
batch_one text one other (inr (inl (at, fails, gives))) (inr (inr (place, deep, given))) =
    absurd (fails_or_deep IsArrayText text at place fails deep)
batch_one text one other (inr (inr (at, deep, gives))) (inl (spans, others, is, are, given)) =
    absurd (text_not_deep IsArrayText text spans at is deep)
batch_one text one other (inr (inr (at, deep, gives))) (inr (inl (place, fails, given))) =
    absurd (fails_or_deep IsArrayText text place at fails deep)
batch_one text one other (inr (inr (at, deep, gives))) (inr (inr (place, low, given))) = gives ∙ sym given

-- ---- a line

given_one : (wid : List ℕ) (command : Command) (text : List ℕ) (one other : Item) → IsGiven wid command text one
    → IsGiven wid command text other → one ≡ other
given_one wid end text one other is also = absurd is
given_one wid hello text one other is also = is ∙ sym also
given_one wid push text one other is also = push_one text one other is also
given_one wid batch text one other is also = batch_one text one other is also
given_one wid fetch text one other is also = is ∙ sym also
given_one wid ack text one other is also = is ∙ sym also
given_one wid fail text one other is also = is ∙ sym also
given_one wid beat text one other is also = is ∙ sym also
given_one wid signal text one other is also = is ∙ sym also
given_one wid info text one other is also = is ∙ sym also
given_one wid flush text one other is also = is ∙ sym also
given_one wid mutate text one other is also = is ∙ sym also
given_one wid unknown text one other is also = is ∙ sym also

-- one thing is given for a line
abbrev OneGiven : List ℕ → Command → List ℕ → List Item → Type 0
OneGiven wid command text items = (item : Item) × IsGiven wid command text item × (items ≡ item ∷ [])

one_given : (wid : List ℕ) (command : Command) (text : List ℕ) (one other : List Item) → OneGiven wid command text one
    → OneGiven wid command text other → one ≡ other
one_given wid command text one other (given, is, whole) (found, also, all) =
    whole ∙ ap (λ g. g ∷ []) (given_one wid command text given found is also) ∙ sym all

command_one : (wid : List ℕ) (command : Command) (text : List ℕ) (one other : List Item)
    → AreGiven wid command text one → AreGiven wid command text other → one ≡ other
command_one wid end text one other is also = is ∙ sym also
command_one wid command text one other is also = one_given wid command text one other is also

line_one : (gate : Gate) (speaker : Option (List ℕ)) (line : Line) (one other : List Item)
    → AreItemsOf gate speaker line one → AreItemsOf gate speaker line other → one ≡ other
unfolding AreItemsOf
line_one gate speaker TooLong one other is also = is ∙ sym also
line_one gate speaker Need one other is also = is ∙ sym also
line_one gate None (Whole line) one other is also = is ∙ sym also
line_one gate (Some wid) (Whole line) one other is also =
    command_one wid (command_of line) (arguments line) one other is also

-- ---- a stream

joined_same : (first early others late : List Item) → first ≡ early → others ≡ late → first ++ others ≡ early ++ late
joined_same first early others late fronts behind = rw (fronts, behind) refl

pub script_one : (gate : Gate) (speaker : Option (List ℕ)) (lines : List Line) (one other : List Item)
    → AreItemsFrom gate speaker lines one → AreItemsFrom gate speaker lines other → one ≡ other
script_one gate speaker [] one other is also = is ∙ sym also
script_one gate speaker (line ∷ lines) one other (first, others, is, are, whole) (early, late, also, read, all) =
    whole
    ∙ joined_same first early others late (line_one gate speaker line first early is also)
    (script_one gate (speaker_after gate speaker line) lines others late are read)
    ∙ sym all

-- a stream has a script, and no other
pub one_script : (gate : Gate) (bytes : List ℕ) → (items : List Item) × IsScript gate bytes items
    × ((others : List Item) → IsScript gate bytes others → others ≡ items)
one_script gate bytes =
    let lines = talk_from gate None (lines_of bytes) in
    let (items, is) = script_total laws gate None lines in
    (items, is, λ others also. script_one gate None lines others items also is)
