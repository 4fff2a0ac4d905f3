-- The names of the queues in which a row waits, once the state was brought up to date: those of the tables, and those
-- into which rows were put.
use Rattle.std.proofs.Common.{◌≡◌, ◌≢◌, ◌∙◌, sym, ap, refl, ℕ, zero, suc, ◌+◌, ◌<◌, List, [], ◌∷◌, ◌++◌, Bool, true, false, length, map, arith, length-append}
use Rattle.std.specs.Prelude.{All, Contains, Option, None, Some, filter_map, fold, bytes_eq, IsUtf8, slice_index_or}
use Rattle.std.proofs.lemmas.List.Elements.{All-map, All-filter, All-weaker, All-contains, All-contains_itself, All-append, Contains-append_left, Contains-append_right}
use Rattle.std.proofs.lemmas.Bool.{false≢true}
use Rattle.std.proofs.lemmas.Slice.Eq.{bytes_eq-Decides}
use Rattle.serde_json.specs.Data.{Data, no_members}
use Rattle.fk_job.proofs.Spelled.{queue_utf8}
use Rattle.fk_lists.specs.declared.size.Size.{Size}
use Rattle.fk_lists.specs.Room.{Named, list_at, AreNamed}
use Rattle.fk_lists.specs.Sizes.{sizes_of, size_of}
use Rattle.fk_model.specs.declared.row.Row.{Row}
use Rattle.fk_model.specs.Rows.{row_of}
use Rattle.fk_model.specs.State.{KeptState}
use Rattle.fk_model.specs.Orders.{is_queued, rank_of, rank_in, with_ticket, queue}
use Rattle.fk_model.specs.Between.{IsWellKept}
use Rattle.fk_model.specs.Due.{due}
use Rattle.fk_model.specs.Bringing.{brought_up}
use Rattle.fk_model.specs.Info.{count, queues_of, sizes, waiting, with_queue}
use Rattle.fk_model.proofs.Orderly.{HasJob, orderly}
use Rattle.fk_model.proofs.UpToDate.{up_orderly}
use Rattle.fk_core.specs.Sizes.{AreSizesOf}
use Rattle.fk_core.proofs.Whereabouts.{length_in_order}
use Rattle.fk_core.proofs.SizesOfQueues.{own_list, name_found, longer, same_names}
use Rattle.fk_plan.specs.Arrivals.{arrivals, HasArrived}
use Rattle.fk_plan.proofs.Arrived.{queue_up}
use Rattle.fk_plan.proofs.Puts.{same_members}

-- ---- a queue has a row where its name is one of theirs

abbrev pairs_of : List ℕ → List (ℕ × Row) → List (ℕ × ℕ)
pairs_of name rows = filter_map (with_ticket (rank_in name)) rows

name_step : (name : List ℕ) (filed : ℕ × Row) (rows : List (ℕ × Row)) (rank : Option ℕ) (named : Bool)
    → rank_of (row_of filed).place ≡ rank → bytes_eq (row_of filed).job.queue name ≡ named
    → (0 < length (pairs_of name rows) → Contains (queues_of rows) name)
    → 0 < length (pairs_of name (filed ∷ rows)) → Contains (queues_of (filed ∷ rows)) name
name_step name filed rows None true e f rest some = rw e (rest (rw (f, e) at some))
name_step name filed rows None false e f rest some = rw e (rest (rw f at some))
name_step name filed rows (Some rank) true e f rest some =
    rw e (zero, omega arith, (bytes_eq-Decides (row_of filed).job.queue name).0 f)
name_step name filed rows (Some rank) false e f rest some = rw e (further (rest (rw f at some)))
  where
    further : Contains (queues_of rows) name → Contains ((row_of filed).job.queue ∷ queues_of rows) name
    further (k, within, is) = (suc k, omega (arith, within), is)

named_by : (name : List ℕ) (rows : List (ℕ × Row)) → 0 < length (pairs_of name rows)
    → Contains (queues_of rows) name
named_by name [] some = absurd (omega (arith, some))
named_by name (filed ∷ rows) some =
    name_step name filed rows (rank_of (row_of filed).place) (bytes_eq (row_of filed).job.queue name) refl refl
    (named_by name rows) some

pub has_name : (name : List ℕ) (rows : List (ℕ × Row)) → 0 < length (queue rows name)
    → Contains (queues_of rows) name
has_name name rows some =
    let same = length_in_order (pairs_of name rows) in named_by name rows (omega (arith, same, some))

pair_step : (name : List ℕ) (filed : ℕ × Row) (rows : List (ℕ × Row)) (rank : Option ℕ) (named : Bool)
    → rank_of (row_of filed).place ≡ rank → bytes_eq (row_of filed).job.queue name ≡ named
    → (Contains (queues_of rows) name → 0 < length (pairs_of name rows))
    → Contains (queues_of (filed ∷ rows)) name → 0 < length (pairs_of name (filed ∷ rows))
pair_step name filed rows None true e f rest is = rw (f, e) (rest (rw e at is))
pair_step name filed rows None false e f rest is = rw f (rest (rw e at is))
pair_step name filed rows (Some rank) true e f rest is = rw (f, e) (omega arith)
pair_step name filed rows (Some rank) false e f rest is = rw f (behind (rw e at is))
  where
    behind : Contains ((row_of filed).job.queue ∷ queues_of rows) name → 0 < length (pairs_of name rows)
    behind (zero, within, same) = absurd (false≢true (sym f ∙ (bytes_eq-Decides (row_of filed).job.queue name).1 same))
    behind (suc k, within, same) = rest (k, omega (arith, within), same)

pairs_there : (name : List ℕ) (rows : List (ℕ × Row)) → Contains (queues_of rows) name
    → 0 < length (pairs_of name rows)
pairs_there name [] (k, within, is) = absurd (omega (arith, within))
pairs_there name (filed ∷ rows) is =
    pair_step name filed rows (rank_of (row_of filed).place) (bytes_eq (row_of filed).job.queue name) refl refl
    (pairs_there name rows) is

pub row_waits : (name : List ℕ) (rows : List (ℕ × Row)) → Contains (queues_of rows) name
    → 0 < length (queue rows name)
row_waits name rows is =
    let same = length_in_order (pairs_of name rows) in
    let some = pairs_there name rows is in omega (arith, same, some)

-- ---- names are UTF-8

name_utf8 : (name : List ℕ) (rows : List (ℕ × Row)) → All HasJob rows → 0 < length (queue rows name) → IsUtf8 name
name_utf8 name rows jobs some =
    All-contains IsUtf8 (queues_of rows) name
    (All-map IsUtf8 (λ filed. (row_of filed).job.queue) (waiting rows)
    (All-filter (λ filed. is_queued (row_of filed).place) (λ filed. IsUtf8 (row_of filed).job.queue) rows
    (All-weaker HasJob (λ filed. IsUtf8 (row_of filed).job.queue)
    (λ filed is. queue_utf8 (row_of filed).job.queue is.named.plain) rows jobs)))
    (has_name name rows some)

-- ---- which names are put

abbrev name_in : Size → List ℕ
name_in size = size.name

-- the queues that have a row then are these: those that had one, and those into which rows were put
pub longer_queue : (kept : KeptState) (moment word : ℕ) (name : List ℕ) (arrived : Named) → IsWellKept kept
    → HasArrived kept moment arrived
    → length (queue (brought_up kept moment word).rows name)
    ≡ length (queue kept.rows name) + length (list_at arrived name)
longer_queue kept moment word name arrived well has =
    let there = ap length (queue_up kept moment word name well) in
    let came = ap length (has.each name) in
    let parts = length-append (queue kept.rows name) (arrivals name kept.next (due kept moment)) in
    omega (arith, there, came, parts)

-- each size of lists by name is of one that has a pair
pub sized : (items : Named) → AreNamed items
    → All (λ size. 0 < length (list_at items size.name)) (sizes_of items)
sized items named =
    All-map (λ size. 0 < length (list_at items size.name)) size_of items
    (All-weaker (λ entry. Contains items entry × (entry.1 ≢ []))
    (λ entry. 0 < length (list_at items entry.0))
    (λ entry is. rw (own_list items named entry is.0) (longer entry.1 is.1)) items
    (λ k d within. (All-contains_itself items k d within, named.filled k d within)))

one_of : (names others : List (List ℕ)) (name : List ℕ) (one other : List (ℕ × ℕ)) → 0 < length one + length other
    → (one ≢ [] → Contains names name) → (other ≢ [] → Contains others name) → Contains (names ++ others) name
one_of names others name [] [] some first second = absurd (omega (arith, some))
one_of names others name [] (pair ∷ other) some first second =
    Contains-append_right names others name (second (λ none. cc none))
one_of names others name (pair ∷ one) other some first second =
    Contains-append_left names others name (first (λ none. cc none))

-- a member for each is what is told of the queues
abbrev pub size_at : List (ℕ × Row) → List ℕ → Data
size_at rows name = count (length (queue rows name))

fold_both : {X Y : Type 0} (step : X → Y → X) (from : X) (front back : List Y)
    → fold step from (front ++ back) ≡ fold step (fold step from front) back
fold_both step from [] back = refl
fold_both step from (y ∷ front) back = fold_both step (step from y) front back

pub sizes_up : (kept : KeptState) (moment word : ℕ) (held : List Size) (arrived : Named) → IsWellKept kept
    → AreSizesOf kept.rows held → HasArrived kept moment arrived → AreNamed arrived
    → fold (with_queue (brought_up kept moment word).rows)
    (fold (with_queue (brought_up kept moment word).rows) no_members (map name_in held))
    (map name_in (sizes_of arrived))
    ≡ sizes (brought_up kept moment word).rows
sizes_up kept moment word held arrived well are has named =
    let rows = (brought_up kept moment word).rows in
    let names = map name_in held in
    let others = map name_in (sizes_of arrived) in
    let there = λ (name : List ℕ). longer_queue kept moment word name arrived well has in
    sym (fold_both (with_queue rows) no_members names others)
    ∙ same_members (size_at rows) no_members (names ++ others) (queues_of rows)
    (All-weaker (Contains (queues_of rows)) (Contains (names ++ others))
    (λ name is. one_of names others name (queue kept.rows name) (list_at arrived name)
    (let some = row_waits name rows is in let sum = there name in omega (arith, some, sum))
    (are.whole name) (λ some. rw (same_names arrived) (name_found arrived name some)))
    (queues_of rows) (All-contains_itself (queues_of rows)))
    (All-append (Contains (queues_of rows)) names others
    (All-map (Contains (queues_of rows)) name_in held (λ k d within.
    let size = slice_index_or held k d in
    let some = are.filled k d within in
    let many = are.count k d within in
    let sum = there size.name in
    has_name size.name rows (omega (arith, some, many, sum))))
    (All-map (Contains (queues_of rows)) name_in (sizes_of arrived) (λ k d within.
    let size = slice_index_or (sizes_of arrived) k d in
    let some = sized arrived named k d within in
    let sum = there size.name in
    has_name size.name rows (omega (arith, some, sum)))))

-- ---- and they are UTF-8

pub held_utf8 : (kept : KeptState) (held : List Size) → IsWellKept kept → AreSizesOf kept.rows held
    → All (λ size. IsUtf8 size.name) held
held_utf8 kept held well are = λ k d within.
    let size = slice_index_or held k d in
    let some = are.filled k d within in
    let many = are.count k d within in
    name_utf8 size.name kept.rows (orderly kept well).jobs (omega (arith, some, many))

pub come_utf8 : (kept : KeptState) (moment : ℕ) (arrived : Named) → IsWellKept kept → HasArrived kept moment arrived
    → AreNamed arrived → All (λ size. IsUtf8 size.name) (sizes_of arrived)
come_utf8 kept moment arrived well has named = λ k d within.
    let size = slice_index_or (sizes_of arrived) k d in
    let some = sized arrived named k d within in
    let sum = longer_queue kept moment 0 size.name arrived well has in
    name_utf8 size.name (brought_up kept moment 0).rows (up_orderly kept moment 0 well).jobs
    (omega (arith, some, sum))
