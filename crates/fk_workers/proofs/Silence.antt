-- Who was silent, and since when all were seen.
use Rattle.std.proofs.Common.{◌≡◌, ◌∙◌, refl, ap, sym, subst, ℕ, ◌+◌, ◌≤◌, min, Bool, true, false, cond, List, [], ◌∷◌, filter, Some, arith}
use Rattle.std.specs.Map.{lookup, set_value, values_of}
use Rattle.std.proofs.lemmas.Option.{none-some, same_Some}
use Rattle.std.proofs.lemmas.Bool.{ltb-true, lt-ltb}
use Rattle.indexmap.specs.IndexMap.{insert_entry}
use Rattle.std.specs.Prelude.{bytes_eq}
use Rattle.fk_model.specs.State.{Worker}
use Rattle.fk_workers.specs.declared.heard.Heard.{Heard}
use Rattle.fk_model.specs.Workers.{forget_after, fresh, is_fresh}
use Rattle.fk_workers.specs.Entries.{Entry, worker_of, workers_of, AreSince}

-- what holds of either choice holds of the one that is taken
pub either : {X : Type 0} (P : X → Type 0) (b : Bool) (x y : X) → P x → P y → P (cond b x y)
either P true x y one other = one
either P false x y one other = other

-- ---- since when all were seen

pub sooner : (since earlier : ℕ) (entries : List Entry) → earlier ≤ since → AreSince since entries → AreSince earlier entries
sooner since earlier [] less all = tt
sooner since earlier (entry ∷ entries) less all =
    (omega (arith, less, all.0), sooner since earlier entries less all.1)

pub since_set : (test : List ℕ → Bool) (since : ℕ) (heard : Heard) (entries : List Entry)
    → since ≤ heard.seen → AreSince since entries → AreSince since (set_value test entries heard)
since_set test since heard [] seen all = tt
since_set test since heard (entry ∷ entries) seen all =
    either (AreSince since) (test entry.0) ((entry.0, heard) ∷ entries) (entry ∷ set_value test entries heard)
    (seen, all.1) (all.0, since_set test since heard entries seen all.1)

pub since_insert : (since : ℕ) (wid : List ℕ) (heard : Heard) (entries : List Entry)
    → since ≤ heard.seen → AreSince since entries → AreSince since (insert_entry bytes_eq entries wid heard)
since_insert since wid heard [] seen all = (seen, tt)
since_insert since wid heard (entry ∷ entries) seen all =
    either (AreSince since) (bytes_eq wid entry.0) ((entry.0, heard) ∷ entries)
    (entry ∷ insert_entry bytes_eq entries wid heard)
    (seen, all.1) (all.0, since_insert since wid heard entries seen all.1)

pub since_found : (test : List ℕ → Bool) (since : ℕ) (heard : Heard) (entries : List Entry)
    → lookup test entries ≡ Some heard → AreSince since entries → since ≤ heard.seen
since_found test since heard [] found all = absurd (none-some heard found)
since_found test since heard (entry ∷ entries) found all =
    step (test entry.0) refl (λ rest. since_found test since heard entries rest all.1)
  where
    step : (b : Bool) → test entry.0 ≡ b → (lookup test entries ≡ Some heard → since ≤ heard.seen) → since ≤ heard.seen
    step true is rest =
        let here : Some entry.1 ≡ Some heard = rw is at found in
        subst (λ (one : Heard). since ≤ one.seen) (same_Some entry.1 heard here) all.0
    step false is rest = rest (rw is at found)

-- ---- the least moment

-- the least of a moment and of those at which these were seen
abbrev pub floor : ℕ → List Heard → ℕ
floor least [] = least
floor least (heard ∷ others) = floor (min least heard.seen) others

floor_below : (least : ℕ) (all : List Heard) → floor least all ≤ least
floor_below least [] = omega arith
floor_below least (heard ∷ others) =
    let below = floor_below (min least heard.seen) others in
    omega (arith, below)

since_floor : (least : ℕ) (entries : List Entry) → AreSince (floor least (values_of entries)) entries
since_floor least [] = tt
since_floor least (entry ∷ entries) =
    let below = floor_below (min least entry.1.seen) (values_of entries) in
    (omega (arith, below), since_floor (min least entry.1.seen) entries)

pub since_least : (oldest least : ℕ) (all : List Heard) (entries : List Entry)
    → oldest ≡ floor least all → all ≡ values_of entries → AreSince oldest entries
since_least oldest least all entries is whole =
    subst (λ (since : ℕ). AreSince since entries) (sym (is ∙ ap (floor least) whole)) (since_floor least entries)

-- ---- who is kept

choice : (b : Bool) (entry : Entry) (workers : List Worker) (entries : List Entry) → workers ≡ workers_of entries
    → cond b (worker_of entry ∷ workers) workers ≡ workers_of (cond b (entry ∷ entries) entries)
choice true entry workers entries same = ap (λ (l : List Worker). worker_of entry ∷ l) same
choice false entry workers entries same = same

-- the workers that are kept are those of the entries that are
pub fresh_workers : (moment : ℕ) (entries : List Entry)
    → fresh moment (workers_of entries) ≡ workers_of (filter (λ entry. is_fresh moment entry.1.seen) entries)
fresh_workers moment [] = refl
fresh_workers moment (entry ∷ entries) =
    choice (is_fresh moment entry.1.seen) entry (fresh moment (workers_of entries))
    (filter (λ one. is_fresh moment one.1.seen) entries) (fresh_workers moment entries)

-- where the one that was silent longest is kept, all are
pub all_fresh : (moment since : ℕ) (entries : List Entry) → is_fresh moment since ≡ true → AreSince since entries
    → fresh moment (workers_of entries) ≡ workers_of entries
all_fresh moment since [] kept all = refl
all_fresh moment since (entry ∷ entries) kept all =
    let below = ltb-true moment (since + forget_after) kept in
    let here : is_fresh moment entry.1.seen ≡ true = lt-ltb moment (entry.1.seen + forget_after) (omega (arith, below, all.0)) in
    let rest = all_fresh moment since entries kept all.1 in
    rw here (ap (λ (l : List Worker). worker_of entry ∷ l) rest)
