-- What a PUSH, a PUSHB, a FETCH, an ACK, a FAIL, a BEAT and a SIGNAL give, after Faktory's protocol
-- specification: what a turn is asked for, or a refusal. SIGNAL, the texts, and what a FETCH without a name
-- and a member that is null or empty say are this server's own.
use Rattle.std.specs.Prelude.{◌≡◌, ◌⊎◌, ℕ, List, [], ◌∷◌, ◌++◌, length, nat_lt, Bool, if◌then◌else◌, Option, None, Some, bytes_eq, option_and_then, unwrap_or, filter, codes, slice_range}
use Rattle.std.specs.List.{filter_map, slice_split}
use Rattle.std.specs.Option.{option_map_or}
use Rattle.std.specs.Str.{is_utf8}
use Rattle.serde_json.specs.Data as json
use Rattle.serde_json.specs.Data.{Data, Items, Members, no_members, object, put, string}
use Rattle.serde_json.specs.Find.{as_array, as_object, as_str, get_member}
use Rattle.serde_json.specs.Read.{read}
use Rattle.serde_json.specs.Written.{compact_text}
use Rattle.fk_json.specs.declared.member.Member.{Member}
use Rattle.fk_json.specs.declared.span.Span.{Span}
use Rattle.fk_json.specs.Json.{FailsAt, IsArrayText, IsObjectText, IsTooDeepAt, most_levels}
use Rattle.fk_frame.specs.declared.reply.Reply.TheVariants.{Status, Error}
use Rattle.fk_job.specs.declared.job.Job.{Job}
use Rattle.fk_job.specs.declared.fault.JobFault.{JobFault}
use Rattle.fk_job.specs.declared.fault.JobFault.TheVariants.{NoJid, ShortJid, NoType, NoArgs, BadQueue, BadReserve, BadRetry, BadAt, Syntax, TooDeep, NoMemory}
use Rattle.fk_job.specs.Fields.{HasString, default_queue}
use Rattle.fk_job.specs.JobText.{HasFault, HasJid, IsJobOf}
use Rattle.fk_model.specs.declared.ask.Ask.TheVariants.{Push, PushBatch, Fetch, Ack, Fail, Beat, Signal}
use Rattle.fk_model.specs.declared.work_state.WorkState.{WorkState}
use Rattle.fk_model.specs.declared.work_state.WorkState.TheVariants.{Quiet, Terminate}
use Rattle.fk_model.specs.declared.item.Item.{Item}
use Rattle.fk_model.specs.declared.item.Item.TheVariants.{Own, Asks}
use Rattle.fk_model.specs.Commands.{is_space}

abbrev pub accepted : Item
accepted = Own (Status (codes "OK"))

abbrev pub refused : List ℕ → Item
refused text = Own (Error (codes "ERR " ++ text))

-- why a text is no job, in the words of an error. Want of memory has no words: it ends the session
abbrev pub fault_text : JobFault → List ℕ
fault_text (Syntax at) = codes "Bad JSON"
fault_text (TooDeep at) = codes "JSON too deep"
fault_text NoJid = codes "No jid"
fault_text ShortJid = codes "Short jid"
fault_text NoType = codes "No jobtype"
fault_text NoArgs = codes "No args"
fault_text BadQueue = codes "Bad queue"
fault_text BadReserve = codes "Bad reserve_for"
fault_text BadRetry = codes "Bad retry"
fault_text BadAt = codes "Bad at"
fault_text NoMemory = []

-- ---- one job

-- a PUSH asks for the job of its arguments to be pushed, or is refused with their fault
abbrev pub IsPushed : List ℕ → Item → Type 0
IsPushed arguments item =
    ((job : Job) × IsJobOf arguments job × (item ≡ Asks (Push job)))
    ⊎ ((fault : JobFault) × HasFault arguments fault × (item ≡ refused (fault_text fault)))

-- ---- a batch

-- an element of a batch: a job, or a refusal under a key
pub data Element : Type 0 where
  taken : Job → Element
  barred : List ℕ → List ℕ → Element

-- the key of an element: what its last jid stands for, where it is an object in which that is a string,
-- and else the empty text
abbrev pub HasKey : List ℕ → List ℕ → Type 0
HasKey text key =
    ((members : List Member) × IsObjectText most_levels text members
    × HasString text members (codes "jid") key)
    ⊎ ((key ≡ [])
    × ((members : List Member) → IsObjectText most_levels text members → ¬ HasJid text members))

-- what an element is read as
abbrev pub IsElement : List ℕ → Element → Type 0
IsElement text (taken job) = IsJobOf text job
IsElement text (barred key reason) =
    (fault : JobFault) × HasFault text fault × HasKey text key × (reason ≡ fault_text fault)

-- what the elements at these places of a text are read as, one by one
abbrev pub AreElements : List ℕ → List Span → List Element → Type 0
AreElements text [] [] = Unit {0}
AreElements text (span ∷ spans) (element ∷ elements) =
    IsElement (slice_range text span.from span.to) element × AreElements text spans elements
AreElements text [] (element ∷ elements) = ⊥
AreElements text (span ∷ spans) [] = ⊥

-- the jobs among the elements, in order
abbrev pub jobs_among : List Element → List Job
jobs_among [] = []
jobs_among (taken job ∷ elements) = job ∷ jobs_among elements
jobs_among (barred key reason ∷ elements) = jobs_among elements

-- the refusals by key, put to those before them: of two with one key the later one stands
abbrev pub refusals : List Element → Members → Members
refusals [] members = members
refusals (taken job ∷ elements) members = refusals elements members
refusals (barred key reason ∷ elements) members =
    refusals elements (put key (string reason) members)

-- the answer to a batch: an object from key to reason, its keys in order of bytes
abbrev pub batch_text : List Element → List ℕ
batch_text elements = compact_text (object (refusals elements no_members))

-- a PUSHB asks for the jobs among its elements to be pushed, where there is none, too, and tells the
-- others; or it is refused where its arguments are no array
abbrev pub IsBatch : List ℕ → Item → Type 0
IsBatch arguments item =
    ((spans : List Span) × (elements : List Element) × IsArrayText most_levels arguments spans
    × AreElements arguments spans elements
    × (item ≡ Asks (PushBatch (jobs_among elements) (batch_text elements))))
    ⊎ (((at : ℕ) × FailsAt IsArrayText arguments at × (item ≡ refused (codes "Bad JSON")))
    ⊎ ((at : ℕ) × IsTooDeepAt IsArrayText arguments at × (item ≡ refused (codes "JSON too deep"))))

-- ---- a fetch

-- the text has a byte
abbrev pub is_some_text : List ℕ → Bool
is_some_text text = nat_lt 0 (length text)

-- the names, or that of the default queue where there is none
abbrev pub or_default : List (List ℕ) → List (List ℕ)
or_default [] = default_queue ∷ []
or_default (name ∷ names) = name ∷ names

-- the names of queues among the arguments: what stands between their spaces, without what is empty
abbrev pub queue_names : List ℕ → List (List ℕ)
queue_names arguments = or_default (filter is_some_text (slice_split is_space arguments))

-- a FETCH asks for a job of the first of these queues that has one, for the worker of a wid, or for a
-- producer, whose wid is empty
abbrev pub IsFetched : List ℕ → List ℕ → Item → Type 0
IsFetched wid arguments item = item ≡ Asks (Fetch wid (queue_names arguments))

-- ---- the object of a command's arguments

-- the value that serde_json reads a text as, which has to be UTF-8
abbrev pub value_read : List ℕ → Option Data
value_read text = if is_utf8 text then read text else None

-- the members of the object that it is; of two with one name the last counts
abbrev pub object_read : List ℕ → Option Members
object_read text = option_and_then as_object (value_read text)

-- the string of this name among the members
abbrev pub string_among : List ℕ → Members → Option (List ℕ)
string_among name members = option_and_then as_str (get_member name members)

-- ---- a job that was done

-- what an ACK of an object gives: its jid is acknowledged
abbrev pub acknowledged : Members → Item
acknowledged members =
    option_map_or (λ jid. Asks (Ack jid)) (string_among (codes "jid") members)
    (refused (codes "No jid"))

-- an ACK acknowledges the jid of its arguments, or is refused where they are no object or have none
abbrev pub IsAcknowledged : List ℕ → Item → Type 0
IsAcknowledged arguments item =
    item ≡ option_map_or acknowledged (object_read arguments) (refused (codes "Bad JSON"))

-- ---- a job that failed

-- the string of this name among the members, or `unknown` where there is none
abbrev pub string_or_unknown : List ℕ → Members → List ℕ
string_or_unknown name members = unwrap_or (string_among name members) (codes "unknown")

-- the elements of an array, in order
abbrev pub elements : Items → List Data
elements json.no_items = []
elements (json.item element items) = element ∷ elements items

-- the elements of the array of this name among the members, or none where there is no array
abbrev pub elements_among : List ℕ → Members → List Data
elements_among name members =
    option_map_or elements (option_and_then as_array (get_member name members)) []

-- the strings among them
abbrev pub strings_among : List ℕ → Members → List (List ℕ)
strings_among name members = filter_map as_str (elements_among name members)

-- what a FAIL of an object gives: the job of its jid failed, for the reason that it tells
abbrev pub reported : Members → Item
reported members =
    option_map_or (λ jid. Asks (Fail jid (string_or_unknown (codes "errtype") members)
    (string_or_unknown (codes "message") members) (strings_among (codes "backtrace") members)))
    (string_among (codes "jid") members) (refused (codes "No jid"))

-- a FAIL reports the jid of its arguments, or is refused where they are no object or have none
abbrev pub IsReported : List ℕ → Item → Type 0
IsReported arguments item =
    item ≡ option_map_or reported (object_read arguments) (refused (codes "Bad JSON"))

-- ---- a worker that is there

-- what a BEAT of an object gives: the worker of its wid is there
abbrev pub beat : Members → Item
beat members =
    option_map_or (λ wid. Asks (Beat wid)) (string_among (codes "wid") members)
    (refused (codes "No wid"))

-- a BEAT tells of the wid of its arguments, or is refused where they are no object or have none
abbrev pub IsBeat : List ℕ → Item → Type 0
IsBeat arguments item =
    item ≡ option_map_or beat (object_read arguments) (refused (codes "Bad JSON"))

-- ---- a worker that is to stop

-- the state of this name, of those that a signal may give
abbrev pub state_named : List ℕ → Option WorkState
state_named name =
    if bytes_eq name (codes "quiet") then Some Quiet
    else (if bytes_eq name (codes "terminate") then Some Terminate else None)

-- what a SIGNAL to the worker of a wid gives: that worker gets the state of the members
abbrev pub signal_to : Members → List ℕ → Item
signal_to members wid =
    option_map_or (λ state. Asks (Signal wid state))
    (option_and_then state_named (string_among (codes "state") members))
    (refused (codes "Bad state"))

-- what a SIGNAL of an object gives
abbrev pub signal : Members → Item
signal members =
    option_map_or (signal_to members) (string_among (codes "wid") members)
    (refused (codes "No wid"))

-- a SIGNAL gives a state to the wid of its arguments, or is refused where they are no object or lack one
abbrev pub IsSignal : List ℕ → Item → Type 0
IsSignal arguments item =
    item ≡ option_map_or signal (object_read arguments) (refused (codes "Bad JSON"))
