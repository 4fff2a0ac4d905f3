-- No reply that a script has of its own has the bytes of an answer of a turn that couldn't be made.
use Rattle.std.proofs.Common.{◌≡◌, ◌≢◌, ℕ, List, [], ◌∷◌, ◌++◌, codes, Bool, true, false, Option, None, Some, arith, refl, sym, subst, inl, inr, if◌then◌else◌, option_and_then}
use Rattle.std.specs.Prelude.{All, slice_index}
use Rattle.std.specs.Option.{option_map_or}
use Rattle.std.proofs.lemmas.List.Elements.{All-append, All-cons, All-nil}
use Rattle.serde_json.specs.Data.{Members}
use Rattle.fk_frame.specs.declared.line_reader.Line.{Line}
use Rattle.fk_frame.specs.declared.line_reader.Line.TheVariants.{Whole, Need, TooLong}
use Rattle.fk_frame.specs.declared.reply.Reply.{Reply}
use Rattle.fk_frame.specs.declared.reply.Reply.TheVariants.{Error}
use Rattle.fk_frame.specs.Lines.{lines_of}
use Rattle.fk_frame.specs.Replies.{reply_bytes}
use Rattle.fk_job.specs.declared.fault.JobFault.{JobFault}
use Rattle.fk_job.specs.declared.fault.JobFault.TheVariants.{NoJid, ShortJid, NoType, NoArgs, BadQueue, BadReserve, BadRetry, BadAt, Syntax, TooDeep, NoMemory}
use Rattle.fk_model.specs.declared.ask.Ask.TheVariants.{Hello, Ack, Fail, Beat, Signal, Mutate}
use Rattle.fk_model.specs.declared.gate.Gate.{Gate}
use Rattle.fk_model.specs.declared.mutation.Cmd.{Cmd}
use Rattle.fk_model.specs.declared.mutation.Filter.{Filter}
use Rattle.fk_model.specs.declared.mutation.Target.{Target}
use Rattle.fk_model.specs.declared.work_state.WorkState.{WorkState}
use Rattle.fk_model.specs.declared.item.Item.{Item}
use Rattle.fk_model.specs.declared.item.Item.TheVariants.{Own, Asks}
use Rattle.fk_model.specs.Answers.{IsToldApart}
use Rattle.fk_model.specs.Commands.{arguments}
use Rattle.fk_model.specs.Out.{own_replies}
use Rattle.fk_model.specs.Payloads.{IsBatch, IsPushed, accepted, acknowledged, beat as beat_item, fault_text, is_some_text, object_read, refused, reported, signal as signal_item, signal_to, state_named, string_among, string_or_unknown, strings_among}
use Rattle.fk_model.specs.Mutations.{cmd_named, filter_among, mutation, mutation_by, mutation_of, target_named}
use Rattle.fk_model.specs.Handshake.{has_version, let_in, opens, turned_away, welcome_of, wid_said}
use Rattle.fk_model.specs.Script.{AreGiven, AreItemsFrom, AreItemsOf, Command, IsGiven, IsScript, ack, batch, beat, command_of, end, fail, fetch, flush, handshake_items, hello, hello_first, hello_item, info, mutate, push, signal, speaker_after, talk_from, too_long, unknown}
use Rattle.fk_model.proofs.Outs.{own_replies-append}
use Rattle.fk_model.proofs.ToldApart.{a_status, an_error}

-- each reply of its own that these items have
abbrev pub AreApart : List Item → Type 0
AreApart items = All IsToldApart (own_replies items)

own_one : (reply : Reply) → IsToldApart reply → AreApart (Own reply ∷ [])
own_one reply apart = All-cons IsToldApart reply [] apart (All-nil IsToldApart)

-- a refusal, by its first byte behind `-ERR `
by_byte : (text : List ℕ) (byte : ℕ) → slice_index (reply_bytes (Error (codes "ERR " ++ text))) 5 ≡ byte
    → byte ≢ 79 → byte ≢ 70 → byte ≢ 68 → AreApart (refused text ∷ [])
by_byte text byte at o f d =
    own_one (Error (codes "ERR " ++ text)) (an_error (Error (codes "ERR " ++ text)) byte at o f d)

a_fault : (fault : JobFault) → AreApart (refused (fault_text fault) ∷ [])
a_fault (Syntax at) = by_byte (codes "Bad JSON") 66 refl (omega arith) (omega arith) (omega arith)
a_fault (TooDeep at) = by_byte (codes "JSON too deep") 74 refl (omega arith) (omega arith) (omega arith)
a_fault NoJid = by_byte (codes "No jid") 78 refl (omega arith) (omega arith) (omega arith)
a_fault ShortJid = by_byte (codes "Short jid") 83 refl (omega arith) (omega arith) (omega arith)
a_fault NoType = by_byte (codes "No jobtype") 78 refl (omega arith) (omega arith) (omega arith)
a_fault NoArgs = by_byte (codes "No args") 78 refl (omega arith) (omega arith) (omega arith)
a_fault BadQueue = by_byte (codes "Bad queue") 66 refl (omega arith) (omega arith) (omega arith)
a_fault BadReserve = by_byte (codes "Bad reserve_for") 66 refl (omega arith) (omega arith) (omega arith)
a_fault BadRetry = by_byte (codes "Bad retry") 66 refl (omega arith) (omega arith) (omega arith)
a_fault BadAt = by_byte (codes "Bad at") 66 refl (omega arith) (omega arith) (omega arith)
a_fault NoMemory = by_byte [] 13 refl (omega arith) (omega arith) (omega arith)

bad_json : AreApart (refused (codes "Bad JSON") ∷ [])
bad_json = by_byte (codes "Bad JSON") 66 refl (omega arith) (omega arith) (omega arith)

json_too_deep : AreApart (refused (codes "JSON too deep") ∷ [])
json_too_deep = by_byte (codes "JSON too deep") 74 refl (omega arith) (omega arith) (omega arith)

a_command_before : AreApart (hello_first ∷ [])
a_command_before = by_byte (codes "HELLO first") 72 refl (omega arith) (omega arith) (omega arith)

a_long_line : AreApart (too_long ∷ [])
a_long_line = by_byte (codes "Line too long") 76 refl (omega arith) (omega arith) (omega arith)

-- ---- what a command gives

as_it : (item other : Item) → item ≡ other → AreApart (other ∷ []) → AreApart (item ∷ [])
as_it item other same apart = subst (λ one. AreApart (one ∷ [])) (sym same) apart

a_push : (text : List ℕ) (item : Item) → IsPushed text item → AreApart (item ∷ [])
a_push text item (inl (job, is, same)) = as_it item _ same (All-nil IsToldApart)
a_push text item (inr (fault, has, same)) = as_it item _ same (a_fault fault)

a_batch : (text : List ℕ) (item : Item) → IsBatch text item → AreApart (item ∷ [])
a_batch text item (inl (spans, elements, is, are, same)) = as_it item _ same (All-nil IsToldApart)
a_batch text item (inr (inl (at, fails, same))) = as_it item _ same bad_json
a_batch text item (inr (inr (at, deep, same))) = as_it item _ same json_too_deep

no_jid : AreApart (refused (codes "No jid") ∷ [])
no_jid = by_byte (codes "No jid") 78 refl (omega arith) (omega arith) (omega arith)

a_jid : (jid : Option (List ℕ))
    → AreApart (option_map_or (λ jid. Asks (Ack jid)) jid (refused (codes "No jid")) ∷ [])
a_jid None = no_jid
a_jid (Some jid) = All-nil IsToldApart

an_ack : (found : Option Members)
    → AreApart (option_map_or acknowledged found (refused (codes "Bad JSON")) ∷ [])
an_ack None = bad_json
an_ack (Some members) = a_jid (string_among (codes "jid") members)

a_report : (jid : Option (List ℕ)) (errtype message : List ℕ) (backtrace : List (List ℕ))
    → AreApart (option_map_or (λ jid. Asks (Fail jid errtype message backtrace)) jid
    (refused (codes "No jid")) ∷ [])
a_report None errtype message backtrace = no_jid
a_report (Some jid) errtype message backtrace = All-nil IsToldApart

a_fail : (found : Option Members)
    → AreApart (option_map_or reported found (refused (codes "Bad JSON")) ∷ [])
a_fail None = bad_json
a_fail (Some members) =
    a_report (string_among (codes "jid") members) (string_or_unknown (codes "errtype") members)
    (string_or_unknown (codes "message") members) (strings_among (codes "backtrace") members)

-- ---- a worker that is there, or is to stop

no_wid : AreApart (refused (codes "No wid") ∷ [])
no_wid = by_byte (codes "No wid") 78 refl (omega arith) (omega arith) (omega arith)

a_wid : (wid : Option (List ℕ))
    → AreApart (option_map_or (λ wid. Asks (Beat wid)) wid (refused (codes "No wid")) ∷ [])
a_wid None = no_wid
a_wid (Some wid) = All-nil IsToldApart

a_beat : (found : Option Members)
    → AreApart (option_map_or beat_item found (refused (codes "Bad JSON")) ∷ [])
a_beat None = bad_json
a_beat (Some members) = a_wid (string_among (codes "wid") members)

a_state : (wid : List ℕ) (state : Option WorkState)
    → AreApart (option_map_or (λ state. Asks (Signal wid state)) state (refused (codes "Bad state")) ∷ [])
a_state wid None = by_byte (codes "Bad state") 66 refl (omega arith) (omega arith) (omega arith)
a_state wid (Some state) = All-nil IsToldApart

a_signal_to : (object : Members) (wid : Option (List ℕ))
    → AreApart (option_map_or (signal_to object) wid (refused (codes "No wid")) ∷ [])
a_signal_to object None = no_wid
a_signal_to object (Some wid) = a_state wid (option_and_then state_named (string_among (codes "state") object))

a_signal : (found : Option Members)
    → AreApart (option_map_or signal_item found (refused (codes "Bad JSON")) ∷ [])
a_signal None = bad_json
a_signal (Some members) = a_signal_to members (string_among (codes "wid") members)

-- ---- a MUTATE

a_filter : (cmd : Cmd) (target : Target) (filter : Option Filter)
    → AreApart (option_map_or (λ filter. Asks (Mutate cmd target filter)) filter
    (refused (codes "Bad filter")) ∷ [])
a_filter cmd target None = by_byte (codes "Bad filter") 66 refl (omega arith) (omega arith) (omega arith)
a_filter cmd target (Some filter) = All-nil IsToldApart

a_target : (cmd : Cmd) (object : Members) (target : Option Target)
    → AreApart (option_map_or (mutation_of cmd object) target (refused (codes "Bad target")) ∷ [])
a_target cmd object None = by_byte (codes "Bad target") 66 refl (omega arith) (omega arith) (omega arith)
a_target cmd object (Some target) = a_filter cmd target (filter_among object)

a_cmd : (object : Members) (cmd : Option Cmd)
    → AreApart (option_map_or (mutation_by object) cmd (refused (codes "Bad cmd")) ∷ [])
a_cmd object None = by_byte (codes "Bad cmd") 66 refl (omega arith) (omega arith) (omega arith)
a_cmd object (Some cmd) = a_target cmd object (option_and_then target_named (string_among (codes "target") object))

a_mutate : (found : Option Members)
    → AreApart (option_map_or mutation found (refused (codes "Bad JSON")) ∷ [])
a_mutate None = bad_json
a_mutate (Some members) = a_cmd members (option_and_then cmd_named (string_among (codes "cmd") members))

-- ---- a HELLO

bad_hello : AreApart (refused (codes "Bad HELLO") ∷ [])
bad_hello = by_byte (codes "Bad HELLO") 66 refl (omega arith) (omega arith) (omega arith)

who_is_let_in : (wid : List ℕ) (some : Bool) → AreApart ((if some then Asks (Hello wid) else accepted) ∷ [])
who_is_let_in wid true = All-nil IsToldApart
who_is_let_in wid false = own_one _ (a_status (codes "OK"))

a_password : (wid : List ℕ) (right : Bool)
    → AreApart (hello_item (if right then let_in wid else turned_away (codes "Invalid password")) ∷ [])
a_password wid true = who_is_let_in wid (is_some_text wid)
a_password wid false = by_byte (codes "Invalid password") 73 refl (omega arith) (omega arith) (omega arith)

a_version : (wid : List ℕ) (has right : Bool)
    → AreApart (hello_item (if has
    then (if right then let_in wid else turned_away (codes "Invalid password"))
    else turned_away (codes "Bad version")) ∷ [])
a_version wid true right = a_password wid right
a_version wid false right = by_byte (codes "Bad version") 66 refl (omega arith) (omega arith) (omega arith)

a_name : (gate : Gate) (object : Members) (wid : Option (List ℕ))
    → AreApart (hello_item (option_map_or
    (λ wid. if has_version object
    then (if opens gate object then let_in wid else turned_away (codes "Invalid password"))
    else turned_away (codes "Bad version"))
    wid (turned_away (codes "Bad HELLO"))) ∷ [])
a_name gate object None = bad_hello
a_name gate object (Some wid) = a_version wid (has_version object) (opens gate object)

a_hello : (gate : Gate) (found : Option Members)
    → AreApart (hello_item (option_map_or (welcome_of gate) found (turned_away (codes "Bad HELLO"))) ∷ [])
a_hello gate None = bad_hello
a_hello gate (Some members) = a_name gate members (wid_said members)

before_hello : (gate : Gate) (command : Command) (text : List ℕ) → AreApart (handshake_items gate command text)
before_hello gate end text = All-nil IsToldApart
before_hello gate hello text = a_hello gate (object_read text)
before_hello gate other text = a_command_before

-- ---- a line

a_command : (wid : List ℕ) (command : Command) (text : List ℕ) (item : Item) → IsGiven wid command text item
    → AreApart (item ∷ [])
a_command wid end text item is = absurd is
a_command wid hello text item is =
    as_it item _ is (by_byte (codes "Already said HELLO") 65 refl (omega arith) (omega arith) (omega arith))
a_command wid push text item is = a_push text item is
a_command wid batch text item is = a_batch text item is
a_command wid fetch text item is = as_it item _ is (All-nil IsToldApart)
a_command wid ack text item is = as_it item _ is (an_ack (object_read text))
a_command wid fail text item is = as_it item _ is (a_fail (object_read text))
a_command wid beat text item is = as_it item _ is (a_beat (object_read text))
a_command wid signal text item is = as_it item _ is (a_signal (object_read text))
a_command wid info text item is = as_it item _ is (All-nil IsToldApart)
a_command wid flush text item is = as_it item _ is (All-nil IsToldApart)
a_command wid mutate text item is = as_it item _ is (a_mutate (object_read text))
a_command wid unknown text item is =
    as_it item _ is (by_byte (codes "Unknown command") 85 refl (omega arith) (omega arith) (omega arith))

as_they : (items others : List Item) → items ≡ others → AreApart others → AreApart items
as_they items others same apart = subst AreApart (sym same) apart

-- one thing is given for a line
abbrev OneGiven : List ℕ → Command → List ℕ → List Item → Type 0
OneGiven wid command text items = (item : Item) × IsGiven wid command text item × (items ≡ item ∷ [])

one_given : (wid : List ℕ) (command : Command) (text : List ℕ) (items : List Item)
    → OneGiven wid command text items → AreApart items
one_given wid command text items (item, is, same) = as_they items _ same (a_command wid command text item is)

behind_hello : (wid : List ℕ) (command : Command) (text : List ℕ) (items : List Item)
    → AreGiven wid command text items → AreApart items
behind_hello wid end text items same = as_they items [] same (All-nil IsToldApart)
behind_hello wid command text items are = one_given wid command text items are

a_line : (gate : Gate) (speaker : Option (List ℕ)) (line : Line) (items : List Item)
    → AreItemsOf gate speaker line items → AreApart items
unfolding AreItemsOf
a_line gate speaker TooLong items same = as_they items _ same a_long_line
a_line gate speaker Need items same = as_they items [] same (All-nil IsToldApart)
a_line gate None (Whole line) items same =
    as_they items _ same (before_hello gate (command_of line) (arguments line))
a_line gate (Some wid) (Whole line) items are = behind_hello wid (command_of line) (arguments line) items are

-- ---- a stream

both_apart : (front back : List Item) → AreApart front → AreApart back → AreApart (front ++ back)
both_apart front back one other =
    subst (All IsToldApart) (sym (own_replies-append front back))
    (All-append IsToldApart (own_replies front) (own_replies back) one other)

lines_apart : (gate : Gate) (speaker : Option (List ℕ)) (lines : List Line) (items : List Item)
    → AreItemsFrom gate speaker lines items → AreApart items
lines_apart gate speaker [] items same = as_they items [] same (All-nil IsToldApart)
lines_apart gate speaker (line ∷ lines) items (first, others, is, are, whole) =
    as_they items _ whole
    (both_apart first others (a_line gate speaker line first is)
    (lines_apart gate (speaker_after gate speaker line) lines others are))

pub a_script : (gate : Gate) (bytes : List ℕ) (items : List Item) → IsScript gate bytes items → AreApart items
a_script gate bytes items is = lines_apart gate None (talk_from gate None (lines_of bytes)) items is
