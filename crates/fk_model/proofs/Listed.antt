-- The wids of the workers stay distinct, whatever a turn makes of the list.
use Rattle.std.proofs.Common.{◌≡◌, ◌∙◌, refl, ap, sym, subst, ℕ, Bool, true, false, cond, List, [], ◌∷◌, ◌++◌}
use Rattle.std.specs.Prelude.{◌||◌, bytes_eq, map, filter}
use Rattle.std.specs.List.{list_any, AllByRecursion, IsDistinct}
use Rattle.std.specs.Cmp.Lexicographic.{bytes_decides, nat_list_eq_equiv}
use Rattle.std.proofs.lemmas.Map.Keys.{IsDistinct-head, IsDistinct-tail, IsDistinct-cons, IsDistinct-push}
use Rattle.fk_model.specs.declared.ask.Ask.{Ask}
use Rattle.fk_model.specs.declared.ask.Ask.TheVariants.{Hello, Beat, Signal}
use Rattle.fk_model.specs.State.{Worker}
use Rattle.fk_model.specs.Workers.{acted, after_turn, changed, fresh, introduced, is_fresh, is_named, newcomer, AreApart}

-- the wids of workers
abbrev pub wids_of : List Worker → List (List ℕ)
wids_of workers = map (λ worker. worker.wid) workers

-- a wid is none of these
abbrev pub IsNoneOf : List ℕ → List (List ℕ) → Type 0
IsNoneOf wid others = AllByRecursion (λ other. bytes_eq wid other ≡ false) others

-- ---- those that are left

none_left : (wid : List ℕ) (test : Worker → Bool) (workers : List Worker) → IsNoneOf wid (wids_of workers)
    → IsNoneOf wid (wids_of (filter test workers))
none_left wid test [] none = tt
none_left wid test (worker ∷ workers) none = step (test worker) (none_left wid test workers none.1)
  where
    step : (b : Bool) → IsNoneOf wid (wids_of (filter test workers))
        → IsNoneOf wid (wids_of (cond b (worker ∷ filter test workers) (filter test workers)))
    step true rest = (none.0, rest)
    step false rest = rest

left_apart : (test : Worker → Bool) (workers : List Worker) → AreApart workers → AreApart (filter test workers)
left_apart test [] apart = apart
left_apart test (worker ∷ workers) apart =
    step (test worker)
    (left_apart test workers (IsDistinct-tail bytes_eq worker.wid (wids_of workers) apart))
  where
    step : (b : Bool) → AreApart (filter test workers)
        → AreApart (cond b (worker ∷ filter test workers) (filter test workers))
    step true rest =
        IsDistinct-cons bytes_eq worker.wid (wids_of (filter test workers))
        (none_left worker.wid test workers (IsDistinct-head bytes_eq worker.wid (wids_of workers) apart)) rest
    step false rest = rest

pub fresh_apart : (moment : ℕ) (workers : List Worker) → AreApart workers → AreApart (fresh moment workers)
fresh_apart moment workers apart = left_apart (λ worker. is_fresh moment worker.seen) workers apart

-- ---- one that is changed

-- a change that leaves the wid of whom it changes leaves all of them
same_wids : (change : Worker → Worker) (wid : List ℕ) (workers : List Worker)
    → ((worker : Worker) → is_named wid worker ≡ true → (change worker).wid ≡ worker.wid)
    → wids_of (changed change wid workers) ≡ wids_of workers
same_wids change wid [] stays = refl
same_wids change wid (worker ∷ workers) stays =
    step (bytes_eq wid worker.wid) refl (same_wids change wid workers stays)
  where
    step : (b : Bool) → bytes_eq wid worker.wid ≡ b → wids_of (changed change wid workers) ≡ wids_of workers
        → wids_of (changed change wid (worker ∷ workers)) ≡ wids_of (worker ∷ workers)
    step true is rest =
        rw is (ap (λ (name : List ℕ). name ∷ wids_of (changed change wid workers)) (stays worker is)
        ∙ ap (λ (names : List (List ℕ)). worker.wid ∷ names) rest)
    step false is rest = rw is (ap (λ (names : List (List ℕ)). worker.wid ∷ names) rest)

changed_apart : (change : Worker → Worker) (wid : List ℕ) (workers : List Worker)
    → ((worker : Worker) → is_named wid worker ≡ true → (change worker).wid ≡ worker.wid)
    → AreApart workers → AreApart (changed change wid workers)
changed_apart change wid workers stays apart =
    subst (IsDistinct bytes_eq) (sym (same_wids change wid workers stays)) apart

-- ---- one that says its name

any_wid : (wid : List ℕ) (workers : List Worker)
    → list_any (bytes_eq wid) (wids_of workers) ≡ list_any (is_named wid) workers
any_wid wid [] = refl
any_wid wid (worker ∷ workers) = ap (λ (b : Bool). bytes_eq wid worker.wid || b) (any_wid wid workers)

wids_behind : (worker : Worker) (workers : List Worker)
    → wids_of (workers ++ worker ∷ []) ≡ wids_of workers ++ worker.wid ∷ []
wids_behind worker [] = refl
wids_behind worker (one ∷ workers) =
    ap (λ (names : List (List ℕ)). one.wid ∷ names) (wids_behind worker workers)

greeted_apart : (wid : List ℕ) (moment : ℕ) (workers : List Worker) → AreApart workers
    → AreApart (introduced wid moment workers)
greeted_apart wid moment workers apart = step (list_any (is_named wid) workers) refl
  where
    step : (b : Bool) → list_any (is_named wid) workers ≡ b
        → AreApart (cond b (changed (λ worker. newcomer wid moment) wid workers) (workers ++ newcomer wid moment ∷ []))
    step true is =
        changed_apart (λ worker. newcomer wid moment) wid workers
        (λ worker named. (bytes_decides wid worker.wid).0 named) apart
    step false is =
        subst (IsDistinct bytes_eq) (sym (wids_behind (newcomer wid moment) workers))
        (IsDistinct-push nat_list_eq_equiv (wids_of workers) wid apart (any_wid wid workers ∙ is))

-- ---- a turn

acted_apart : (ask : Ask) (moment : ℕ) (workers : List Worker) → AreApart workers
    → AreApart (acted ask moment workers)
acted_apart (Hello wid) moment workers apart = greeted_apart wid moment workers apart
acted_apart (Beat wid) moment workers apart = changed_apart _ wid workers (λ worker named. refl) apart
acted_apart (Signal wid state) moment workers apart = changed_apart _ wid workers (λ worker named. refl) apart
acted_apart other moment workers apart = apart

-- the workers after a turn have distinct wids
pub turn_apart : (ask : Ask) (moment : ℕ) (workers : List Worker) → AreApart workers
    → AreApart (after_turn ask moment workers)
turn_apart ask moment workers apart = acted_apart ask moment (fresh moment workers) (fresh_apart moment workers apart)
