-- What a look-up and a change by wid are to the workers.
use Rattle.std.proofs.Common.{◌≡◌, ◌∙◌, refl, ap, sym, ℕ, Bool, true, false, List, [], ◌∷◌, ◌++◌, None, Some, if◌then◌else◌}
use Rattle.std.specs.Prelude.{bytes_eq, option_map}
use Rattle.std.specs.List.{list_any, AllByRecursion, IsDistinct}
use Rattle.std.specs.Map.{keys_of, lookup, set_value}
use Rattle.std.specs.Cmp.Lexicographic.{bytes_decides}
use Rattle.std.proofs.lemmas.Option.{none-some, same_Some}
use Rattle.std.proofs.lemmas.Map.Keys.{IsDistinct-head, IsDistinct-tail}
use Rattle.indexmap.specs.IndexMap.{insert_entry}
use Rattle.fk_model.specs.declared.work_state.WorkState.TheVariants.{Running}
use Rattle.fk_model.specs.State.{Worker}
use Rattle.fk_workers.specs.declared.heard.Heard.{Heard}
use Rattle.fk_model.specs.Workers.{changed, introduced, is_named, newcomer, state_of}
use Rattle.fk_workers.specs.Entries.{Entry, worker_of, workers_of}

-- ---- a look-up

-- the state of a worker is that of its entry
pub state_found : (wid : List ℕ) (entries : List Entry)
    → state_of wid (workers_of entries) ≡ option_map (λ heard. heard.state) (lookup (bytes_eq wid) entries)
state_found wid [] = refl
state_found wid (entry ∷ entries) = step (bytes_eq wid entry.0) refl (state_found wid entries)
  where
    step : (b : Bool) → bytes_eq wid entry.0 ≡ b
        → state_of wid (workers_of entries) ≡ option_map (λ heard. heard.state) (lookup (bytes_eq wid) entries)
        → state_of wid (workers_of (entry ∷ entries)) ≡ option_map (λ heard. heard.state) (lookup (bytes_eq wid) (entry ∷ entries))
    step true is rest = rw is refl
    step false is rest = rw is rest

-- a wid that is equal to one from which all others differ isn't among these
absent : (wid name : List ℕ) (entries : List Entry) → wid ≡ name
    → AllByRecursion (λ other. bytes_eq name other ≡ false) (keys_of entries) → lookup (bytes_eq wid) entries ≡ None
absent wid name [] same differ = refl
absent wid name (entry ∷ entries) same differ =
    let other : bytes_eq wid entry.0 ≡ false = ap (λ (w : List ℕ). bytes_eq w entry.0) same ∙ differ.0 in
    rw other (absent wid name entries same differ.1)

-- ---- a change

-- where nobody has the wid, nobody is changed
pub none_changed : (change : Worker → Worker) (wid : List ℕ) (entries : List Entry)
    → lookup (bytes_eq wid) entries ≡ None → changed change wid (workers_of entries) ≡ workers_of entries
none_changed change wid [] none = refl
none_changed change wid (entry ∷ entries) none =
    step (bytes_eq wid entry.0) refl (none_changed change wid entries)
  where
    step : (b : Bool) → bytes_eq wid entry.0 ≡ b
        → (lookup (bytes_eq wid) entries ≡ None → changed change wid (workers_of entries) ≡ workers_of entries)
        → changed change wid (workers_of (entry ∷ entries)) ≡ workers_of (entry ∷ entries)
    step true is rest = absurd (none-some entry.1 (sym none ∙ rw is refl))
    step false is rest =
        let left : lookup (bytes_eq wid) entries ≡ None = rw is at none in
        rw is (ap (λ (l : List Worker). worker_of entry ∷ l) (rest left))

-- behind the one that has the wid, nobody is changed
rest_stays : (change : Worker → Worker) (wid : List ℕ) (entry : Entry) (entries : List Entry)
    → bytes_eq wid entry.0 ≡ true → IsDistinct bytes_eq (keys_of (entry ∷ entries))
    → changed change wid (workers_of entries) ≡ workers_of entries
rest_stays change wid entry entries is apart =
    none_changed change wid entries
    (absent wid entry.0 entries ((bytes_decides wid entry.0).0 is)
    (IsDistinct-head bytes_eq entry.0 (keys_of entries) apart))

-- the one that has the wid is changed as its entry is
pub one_changed : (change : Worker → Worker) (wid : List ℕ) (old new : Heard) (entries : List Entry)
    → IsDistinct bytes_eq (keys_of entries) → lookup (bytes_eq wid) entries ≡ Some old
    → ((name : List ℕ) → worker_of (name, new) ≡ change (worker_of (name, old)))
    → workers_of (set_value (bytes_eq wid) entries new) ≡ changed change wid (workers_of entries)
one_changed change wid old new [] apart found same = refl
one_changed change wid old new (entry ∷ entries) apart found same =
    step (bytes_eq wid entry.0) refl
    (one_changed change wid old new entries (IsDistinct-tail bytes_eq entry.0 (keys_of entries) apart))
  where
    step : (b : Bool) → bytes_eq wid entry.0 ≡ b
        → (lookup (bytes_eq wid) entries ≡ Some old
        → ((name : List ℕ) → worker_of (name, new) ≡ change (worker_of (name, old)))
        → workers_of (set_value (bytes_eq wid) entries new) ≡ changed change wid (workers_of entries))
        → workers_of (set_value (bytes_eq wid) (entry ∷ entries) new) ≡ changed change wid (workers_of (entry ∷ entries))
    step true is rest =
        let here : Some entry.1 ≡ Some old = rw is at found in
        let it : worker_of (entry.0, new) ≡ change (worker_of entry) =
        same entry.0 ∙ ap (λ (heard : Heard). change (worker_of (entry.0, heard))) (sym (same_Some entry.1 old here)) in
        rw is (ap (λ (one : Worker). one ∷ workers_of entries) it
        ∙ ap (λ (l : List Worker). change (worker_of entry) ∷ l) (sym (rest_stays change wid entry entries is apart)))
    step false is rest =
        let left : lookup (bytes_eq wid) entries ≡ Some old = rw is at found in
        rw is (ap (λ (l : List Worker). worker_of entry ∷ l) (rest left same))

-- ---- a name is said

if_cons : (b : Bool) (one : Worker) (xs ys : List Worker)
    → one ∷ (if b then xs else ys) ≡ (if b then one ∷ xs else one ∷ ys)
if_cons true one xs ys = refl
if_cons false one xs ys = refl

-- the one that has the wid is replaced in its place, and a new one goes last
pub greeted_entry : (wid : List ℕ) (moment : ℕ) (heard : Heard) (entries : List Entry)
    → heard ≡ record { state = Running; seen = moment } → IsDistinct bytes_eq (keys_of entries)
    → workers_of (insert_entry bytes_eq entries wid heard) ≡ introduced wid moment (workers_of entries)
greeted_entry wid moment heard [] is apart = ap (λ (h : Heard). worker_of (wid, h) ∷ []) is
greeted_entry wid moment heard (entry ∷ entries) new apart =
    step (bytes_eq wid entry.0) refl
    (greeted_entry wid moment heard entries new (IsDistinct-tail bytes_eq entry.0 (keys_of entries) apart))
  where
    step : (b : Bool) → bytes_eq wid entry.0 ≡ b
        → workers_of (insert_entry bytes_eq entries wid heard) ≡ introduced wid moment (workers_of entries)
        → workers_of (insert_entry bytes_eq (entry ∷ entries) wid heard) ≡ introduced wid moment (workers_of (entry ∷ entries))
    step true is rest =
        let it : worker_of (entry.0, heard) ≡ newcomer wid moment =
        ap (λ (name : List ℕ). worker_of (name, heard)) (sym ((bytes_decides wid entry.0).0 is))
        ∙ ap (λ (h : Heard). worker_of (wid, h)) new in
        rw is (ap (λ (one : Worker). one ∷ workers_of entries) it
        ∙ ap (λ (l : List Worker). newcomer wid moment ∷ l)
        (sym (rest_stays (λ worker. newcomer wid moment) wid entry entries is apart)))
    step false is rest =
        rw is (ap (λ (l : List Worker). worker_of entry ∷ l) rest
        ∙ if_cons (list_any (is_named wid) (workers_of entries)) (worker_of entry)
        (changed (λ worker. newcomer wid moment) wid (workers_of entries)) (workers_of entries ++ newcomer wid moment ∷ []))
