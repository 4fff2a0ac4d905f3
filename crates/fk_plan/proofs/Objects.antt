-- What is told as an object: its members have no float.
use Rattle.std.proofs.Common.{◌≡◌, ◌∙◌, ap, refl, ℕ, Bool, true, false, ◌||◌, List, [], ◌∷◌, length, Ordering, Less, Equal, Greater, nat_cmp, true≢false, String, Global, string_bytes, string_cmp, codes, rules}
use Rattle.std.specs.Prelude.{fold}
use Rattle.std.specs.BTreeMap.{insert_entry}
use Rattle.std.specs.Cmp.Lexicographic.{slice_cmp}
use Rattle.std.specs.Ordering.{match_ordering}
use Rattle.serde_json.specs.Data.{Data, Members, no_members, member, put, object, string}
use Rattle.serde_json.specs.View.{members_view, view}
use Rattle.serde_json.specs.Written.{compact_text, has_float, members_have_float}
use Rattle.std.specs.BTreeMap.{BTreeMap}
use Rattle.serde_json.specs.declared.value.Value as Value
use Rattle.serde_json.specs.declared.value.Value.{Value, the_lemmas}
use Rattle.serde_json.proofs.Views.{Entry, members_view-insert_entry, view-Object}
use Rattle.fk_time.specs.Moments.{moment_text}
use Rattle.fk_model.specs.declared.row.Row.{Row}
use Rattle.fk_model.specs.State.{KeptState}
use Rattle.fk_model.specs.Orders.{queue}
use Rattle.fk_model.specs.Info.{count, info_text, queues_of, told_of, with_queue}

-- ---- no float

by_order : (order : Ordering) (here there behind : Members) → members_have_float here ≡ false
    → members_have_float there ≡ false → members_have_float behind ≡ false
    → members_have_float (match_ordering order here there behind) ≡ false
by_order Less here there behind one two three = one
by_order Equal here there behind one two three = two
by_order Greater here there behind one two three = three

both_parts : (one other : Bool) → (one || other) ≡ false → (one ≡ false) × (other ≡ false)
both_parts false other none = (refl, none)
both_parts true other none = absurd (true≢false none)

put_without : (name : List ℕ) (value : Data) (given : Members) → has_float value ≡ false
    → members_have_float given ≡ false → members_have_float (put name value given) ≡ false
put_without name value no_members plain none = rw plain refl
put_without name value (member other held given) plain none =
    let parts = both_parts (has_float held) (members_have_float given) none in
    by_order (slice_cmp nat_cmp name other) (member name value (member other held given))
    (member other value given) (member other held (put name value given)) (rw (plain, parts.0) parts.1)
    (rw plain parts.1) (rw parts.0 (put_without name value given plain parts.1))

queues_without : (rows : List (ℕ × Row)) (given : Members) (names : List (List ℕ))
    → members_have_float given ≡ false → members_have_float (fold (with_queue rows) given names) ≡ false
queues_without rows given [] none = none
queues_without rows given (name ∷ names) none =
    queues_without rows (with_queue rows given name) names
    (put_without name (count (length (queue rows name))) given refl none)

-- what is told of a kept state has none
pub told_without : (kept : KeptState) → members_have_float (told_of kept) ≡ false
told_without kept = rw (queues_without kept.rows no_members (queues_of kept.rows) refl) refl

pub info_without : (kept : KeptState) (name now : List ℕ) (words : List ℕ)
    → members_have_float (put name (object (told_of kept)) (put now (string words) no_members)) ≡ false
info_without kept name now words =
    put_without name (object (told_of kept)) (put now (string words) no_members) (told_without kept)
    (put_without now (string words) no_members refl refl)

-- ---- what is put

-- what the members are behind an insert
pub inserted : (old new : List Entry) (key : String Global) (value : Value) (name : List ℕ)
    → new ≡ insert_entry string_cmp old key value → string_bytes key ≡ name
    → members_view new ≡ put name (view value) (members_view old)
inserted old new key value name is named =
    ap members_view is ∙ members_view-insert_entry old key value
    ∙ ap (λ bytes. put bytes (view value) (members_view old)) named

view_string : (words : String Global) → view (Value.String words) ≡ string (string_bytes words)
view_string words = search (rules, the_lemmas)

pub now_is : (words : String Global) (text : List ℕ) → string_bytes words ≡ text
    → view (Value.String words) ≡ string text
now_is words text is = view_string words ∙ ap string is

pub held_is : (held : BTreeMap (String Global) Value) (given : Members) → members_view held.entries ≡ given
    → view (Value.Object held) ≡ object given
held_is held given is = view-Object held ∙ ap object is

-- what is written of these members
pub info_is : (kept : KeptState) (moment : ℕ) (held : BTreeMap (String Global) Value) (text : List ℕ)
    → members_view held.entries ≡ put (codes "faktory") (object (told_of kept))
    (put (codes "now") (string (moment_text moment)) no_members)
    → (has_float (view (Value.Object held)) ≡ false → text ≡ compact_text (view (Value.Object held)))
    → text ≡ info_text kept moment
info_is kept moment held text are written =
    let same = view-Object held ∙ ap object are in
    written (ap has_float same ∙ info_without kept (codes "faktory") (codes "now") (moment_text moment))
    ∙ ap compact_text same
