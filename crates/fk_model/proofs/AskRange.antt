-- What a HELLO, a PUSH, a PUSHB, a FETCH, an ACK, a FAIL, a BEAT, a SIGNAL, an INFO, a FLUSH and a MUTATE ask
-- for is in range, where what serde_json decodes or writes of it is a text.
use Rattle.std.proofs.Common.{◌≡◌, inl, inr, ℕ, ◌<◌, ◌≤◌, Bool, true, false, List, [], ◌∷◌, length, filter, slice_range, codes, Option, None, Some, if◌then◌else◌, option_and_then, sym, subst, arith}
use Rattle.std.specs.Prelude.{All}
use Rattle.std.specs.List.{slice_split}
use Rattle.std.specs.Option.{option_map_or}
use Rattle.std.proofs.lemmas.List.Elements.{All-cons, All-filter, All-from_recursion, All-nil, All-weaker}
use Rattle.std.proofs.lemmas.List.Splits.{length-slice_split}
use Rattle.std.proofs.lemmas.List.Sums.{count_by-le-length, length-filter}
use Rattle.serde_json.specs.Data.{Members}
use Rattle.fk_json.specs.declared.span.Span.{Span}
use Rattle.fk_json.specs.Json.{most_levels}
use Rattle.fk_frame.specs.Lines.{longest_line}
use Rattle.fk_job.specs.Spellings.{HasJobSpelling, IsText}
use Rattle.fk_job.proofs.JobSpelled.{job_spelled}
use Rattle.fk_model.specs.declared.ask.Ask.{Ask}
use Rattle.fk_model.specs.declared.ask.Ask.TheVariants.{Hello, Push, PushBatch, Fetch, Ack, Fail, Beat, Signal, Info, Flush, Mutate}
use Rattle.fk_model.specs.declared.mutation.Cmd.{Cmd}
use Rattle.fk_model.specs.declared.mutation.Filter.{Filter}
use Rattle.fk_model.specs.declared.mutation.Target.{Target}
use Rattle.fk_model.specs.declared.work_state.WorkState.{WorkState}
use Rattle.fk_model.specs.declared.item.Item.{Item}
use Rattle.fk_model.specs.declared.item.Item.TheVariants.{Asks}
use Rattle.fk_model.specs.Commands.{is_space}
use Rattle.fk_model.specs.Payloads.{AreElements, Element, IsBatch, IsFetched, IsPushed, accepted, acknowledged, barred, beat, is_some_text, jobs_among, or_default, queue_names, refused, reported, signal, signal_to, state_named, string_among, string_or_unknown, strings_among, taken}
use Rattle.fk_model.specs.Mutations.{cmd_named, filter_among, mutation, mutation_by, mutation_of, target_named}
use Rattle.fk_model.specs.Handshake.{Welcome, let_in, turned_away}
use Rattle.fk_model.specs.Range.{AreJobs, HasJsonTexts, IsInRange}
use Rattle.fk_model.specs.Script.{hello_item}
use Rattle.fk_model.specs.Out.{asks_of}
use Rattle.fk_model.specs.Spellings.{AreTexts}
use Rattle.fk_model.proofs.Parted.{IsUpTo, elements_count, range_up_to, split_up_to}

-- a turn may be made of the ask, if what serde_json gives of it is a text
abbrev pub IsAskable : Ask → Type 0
IsAskable ask = HasJsonTexts ask → IsInRange ask

abbrev pub AreAskable : List Item → Type 0
AreAskable items = All IsAskable (asks_of items)

-- bytes, no more than a line may have
abbrev pub FitsLine : List ℕ → Type 0
FitsLine line = IsUpTo longest_line line

as_text : (text : List ℕ) → FitsLine text → IsText text
as_text text is = record { bytes = is.bytes; short = omega (arith, is.short) }

-- ---- items

pub none_askable : AreAskable []
none_askable = All-nil IsAskable

pub as_it : (item other : Item) → item ≡ other → AreAskable (other ∷ []) → AreAskable (item ∷ [])
as_it item other same fits = subst (λ one. AreAskable (one ∷ [])) (sym same) fits

one_askable : (ask : Ask) → IsAskable ask → AreAskable (Asks ask ∷ [])
one_askable ask fits = All-cons IsAskable ask [] fits (All-nil IsAskable)

-- ---- a HELLO

let_in_askable : (wid : List ℕ) (some : Bool) → AreAskable ((if some then Asks (Hello wid) else accepted) ∷ [])
let_in_askable wid true = one_askable (Hello wid) (λ is. is)
let_in_askable wid false = none_askable

pub hello_askable : (welcome : Welcome) → AreAskable (hello_item welcome ∷ [])
hello_askable (turned_away reason) = none_askable
hello_askable (let_in wid) = let_in_askable wid (is_some_text wid)

-- ---- a PUSH

pub push_askable : (text : List ℕ) (item : Item) → FitsLine text → IsPushed text item → AreAskable (item ∷ [])
push_askable text item is (inl (job, read, same)) =
    as_it item (Asks (Push job)) same (one_askable (Push job) (λ told. job_spelled text job (as_text text is) read))
push_askable text item is (inr (fault, has, same)) = as_it item _ same none_askable

-- ---- a PUSHB

jobs_spelled : (text : List ℕ) (spans : List Span) (elements : List Element) → FitsLine text
    → AreElements text spans elements → All HasJobSpelling (jobs_among elements)
jobs_spelled text [] [] is are = All-nil HasJobSpelling
jobs_spelled text [] (element ∷ elements) is are = absurd are
jobs_spelled text (span ∷ spans) [] is are = absurd are
jobs_spelled text (span ∷ spans) (taken job ∷ elements) is (read, are) =
    let piece = slice_range text span.from span.to in
    All-cons HasJobSpelling job (jobs_among elements)
    (job_spelled piece job (as_text piece (range_up_to longest_line span.from span.to text is)) read)
    (jobs_spelled text spans elements is are)
jobs_spelled text (span ∷ spans) (barred key reason ∷ elements) is (read, are) =
    jobs_spelled text spans elements is are

jobs_fewer : (text : List ℕ) (spans : List Span) (elements : List Element) → AreElements text spans elements
    → length (jobs_among elements) ≤ length spans
jobs_fewer text [] [] are = omega arith
jobs_fewer text [] (element ∷ elements) are = absurd are
jobs_fewer text (span ∷ spans) [] are = absurd are
jobs_fewer text (span ∷ spans) (taken job ∷ elements) (read, are) =
    omega (arith, jobs_fewer text spans elements are)
jobs_fewer text (span ∷ spans) (barred key reason ∷ elements) (read, are) =
    omega (arith, jobs_fewer text spans elements are)

pub batch_askable : (text : List ℕ) (item : Item) → FitsLine text → IsBatch text item → AreAskable (item ∷ [])
batch_askable text item is (inl (spans, elements, array, are, same)) =
    let jobs : AreJobs (jobs_among elements) = record {
      each = jobs_spelled text spans elements is are;
      short = omega (
        arith,
        jobs_fewer text spans elements are,
        elements_count most_levels text spans array,
        is.short,
      );
    } in
    as_it item _ same (one_askable (PushBatch (jobs_among elements) _) (λ told. (jobs, told)))
batch_askable text item is (inr (inl (at, fails, same))) = as_it item _ same none_askable
batch_askable text item is (inr (inr (at, deep, same))) = as_it item _ same none_askable

-- ---- a FETCH

default_texts : AreTexts (codes "default" ∷ [])
default_texts = record {
  each = All-cons IsText (codes "default") []
      (record {
        bytes = All-from_recursion (λ b. b < 256) (codes "default")
            (omega arith, (omega arith, (omega arith, (omega arith, (omega arith, (omega arith, (omega arith, tt)))))));
        short = omega arith;
      }) (All-nil IsText);
  short = omega arith;
}

or_default_texts : (names : List (List ℕ)) → AreTexts names → AreTexts (or_default names)
or_default_texts [] are = default_texts
or_default_texts (name ∷ names) are = are

names_texts : (text : List ℕ) → FitsLine text → AreTexts (queue_names text)
names_texts text is =
    let parts = slice_split is_space text in
    or_default_texts (filter is_some_text parts)
    (record {
      each = All-filter is_some_text IsText parts
          (All-weaker (IsUpTo longest_line) IsText as_text parts (split_up_to is_space longest_line text is));
      short = omega (
        arith,
        length-filter is_some_text parts,
        count_by-le-length is_some_text parts,
        length-slice_split is_space text,
        count_by-le-length is_space text,
        is.short,
      );
    })

pub fetch_askable : (wid text : List ℕ) (item : Item) → FitsLine text → IsFetched wid text item
    → AreAskable (item ∷ [])
fetch_askable wid text item is same =
    as_it item _ same (one_askable (Fetch wid (queue_names text)) (λ told. (told, names_texts text is)))

-- ---- an ACK

jid_askable : (jid : Option (List ℕ))
    → AreAskable (option_map_or (λ jid. Asks (Ack jid)) jid (refused (codes "No jid")) ∷ [])
jid_askable None = none_askable
jid_askable (Some jid) = one_askable (Ack jid) (λ is. is)

pub ack_askable : (found : Option Members)
    → AreAskable (option_map_or acknowledged found (refused (codes "Bad JSON")) ∷ [])
ack_askable None = none_askable
ack_askable (Some members) = jid_askable (string_among (codes "jid") members)

-- ---- a FAIL

report_askable : (jid : Option (List ℕ)) (errtype message : List ℕ) (backtrace : List (List ℕ))
    → AreAskable (option_map_or (λ jid. Asks (Fail jid errtype message backtrace)) jid
    (refused (codes "No jid")) ∷ [])
report_askable None errtype message backtrace = none_askable
report_askable (Some jid) errtype message backtrace =
    one_askable (Fail jid errtype message backtrace) (λ are. are)

pub fail_askable : (found : Option Members)
    → AreAskable (option_map_or reported found (refused (codes "Bad JSON")) ∷ [])
fail_askable None = none_askable
fail_askable (Some members) =
    report_askable (string_among (codes "jid") members) (string_or_unknown (codes "errtype") members)
    (string_or_unknown (codes "message") members) (strings_among (codes "backtrace") members)

-- ---- a BEAT

wid_askable : (wid : Option (List ℕ))
    → AreAskable (option_map_or (λ wid. Asks (Beat wid)) wid (refused (codes "No wid")) ∷ [])
wid_askable None = none_askable
wid_askable (Some wid) = one_askable (Beat wid) (λ is. is)

pub beat_askable : (found : Option Members)
    → AreAskable (option_map_or beat found (refused (codes "Bad JSON")) ∷ [])
beat_askable None = none_askable
beat_askable (Some members) = wid_askable (string_among (codes "wid") members)

-- ---- a SIGNAL

state_askable : (wid : List ℕ) (state : Option WorkState)
    → AreAskable (option_map_or (λ state. Asks (Signal wid state)) state (refused (codes "Bad state")) ∷ [])
state_askable wid None = none_askable
state_askable wid (Some state) = one_askable (Signal wid state) (λ is. is)

signal_to_askable : (object : Members) (wid : Option (List ℕ))
    → AreAskable (option_map_or (signal_to object) wid (refused (codes "No wid")) ∷ [])
signal_to_askable object None = none_askable
signal_to_askable object (Some wid) =
    state_askable wid (option_and_then state_named (string_among (codes "state") object))

pub signal_askable : (found : Option Members)
    → AreAskable (option_map_or signal found (refused (codes "Bad JSON")) ∷ [])
signal_askable None = none_askable
signal_askable (Some members) = signal_to_askable members (string_among (codes "wid") members)

-- ---- an INFO and a FLUSH

pub info_askable : AreAskable (Asks Info ∷ [])
info_askable = one_askable Info (λ is. is)

pub flush_askable : AreAskable (Asks Flush ∷ [])
flush_askable = one_askable Flush (λ is. is)

-- ---- a MUTATE

filter_askable : (cmd : Cmd) (target : Target) (filter : Option Filter)
    → AreAskable (option_map_or (λ filter. Asks (Mutate cmd target filter)) filter
    (refused (codes "Bad filter")) ∷ [])
filter_askable cmd target None = none_askable
filter_askable cmd target (Some filter) = one_askable (Mutate cmd target filter) (λ is. is)

target_askable : (cmd : Cmd) (object : Members) (target : Option Target)
    → AreAskable (option_map_or (mutation_of cmd object) target (refused (codes "Bad target")) ∷ [])
target_askable cmd object None = none_askable
target_askable cmd object (Some target) = filter_askable cmd target (filter_among object)

cmd_askable : (object : Members) (cmd : Option Cmd)
    → AreAskable (option_map_or (mutation_by object) cmd (refused (codes "Bad cmd")) ∷ [])
cmd_askable object None = none_askable
cmd_askable object (Some cmd) =
    target_askable cmd object (option_and_then target_named (string_among (codes "target") object))

pub mutate_askable : (found : Option Members)
    → AreAskable (option_map_or mutation found (refused (codes "Bad JSON")) ∷ [])
mutate_askable None = none_askable
mutate_askable (Some members) =
    cmd_askable members (option_and_then cmd_named (string_among (codes "cmd") members))
