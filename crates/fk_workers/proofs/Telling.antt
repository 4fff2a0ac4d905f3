-- What the workers of the entries are told to do, and that their wids differ.
use Rattle.std.proofs.Common.{◌≡◌, ◌∙◌, refl, ap, subst, ℕ, Bool, true, false, List, [], ◌∷◌, Option, None, Some, if◌then◌else◌, filter}
use Rattle.std.specs.Prelude.{bytes_eq, map, option_map}
use Rattle.std.specs.List.{IsDistinct}
use Rattle.std.specs.Map.{keys_of, lookup}
use Rattle.std.specs.Cmp.Lexicographic.{nat_list_eq_equiv}
use Rattle.std.proofs.lemmas.Map.Entries.{option_filter, lookup-filter-values}
use Rattle.fk_model.specs.declared.work_state.WorkState.{WorkState}
use Rattle.fk_workers.specs.declared.heard.Heard.{Heard}
use Rattle.fk_model.specs.Workers.{fresh, is_fresh, state_of, AreApart}
use Rattle.fk_workers.specs.Entries.{Entry, workers_of}
use Rattle.fk_workers.proofs.Silence.{fresh_workers}
use Rattle.fk_workers.proofs.Changing.{state_found}

-- ---- the wids

wids_are : (entries : List Entry) → keys_of entries ≡ map (λ worker. worker.wid) (workers_of entries)
wids_are [] = refl
wids_are (entry ∷ entries) = ap (λ (wids : List (List ℕ)). entry.0 ∷ wids) (wids_are entries)

pub apart_workers : (entries : List Entry) → IsDistinct bytes_eq (keys_of entries) → AreApart (workers_of entries)
apart_workers entries apart = subst (IsDistinct bytes_eq) (wids_are entries) apart

-- ---- the state of one

-- the state of a worker that isn't to be forgotten
abbrev told : ℕ → Option Heard → Option WorkState
told moment found = option_map (λ heard. heard.state) (option_filter (λ heard. is_fresh moment heard.seen) found)

told_is : (wid : List ℕ) (moment : ℕ) (entries : List Entry) → IsDistinct bytes_eq (keys_of entries)
    → state_of wid (fresh moment (workers_of entries)) ≡ told moment (lookup (bytes_eq wid) entries)
told_is wid moment entries apart =
    let kept = filter (λ (entry : Entry). is_fresh moment entry.1.seen) entries in
    ap (state_of wid) (fresh_workers moment entries) ∙ state_found wid kept
    ∙ ap (option_map (λ (heard : Heard). heard.state))
    (lookup-filter-values nat_list_eq_equiv (λ heard. is_fresh moment heard.seen) wid entries apart)

-- where a test decides, one of the two comes
choice : (b : Bool) (heard : Heard)
    → option_map (λ (one : Heard). one.state) (if b then Some heard else None) ≡ (if b then Some heard.state else None)
choice true heard = refl
choice false heard = refl

pub told_some : (wid : List ℕ) (moment : ℕ) (heard : Heard) (entries : List Entry) → IsDistinct bytes_eq (keys_of entries)
    → lookup (bytes_eq wid) entries ≡ Some heard
    → state_of wid (fresh moment (workers_of entries)) ≡ (if is_fresh moment heard.seen then Some heard.state else None)
told_some wid moment heard entries apart found =
    told_is wid moment entries apart ∙ ap (told moment) found ∙ choice (is_fresh moment heard.seen) heard

pub told_none : (wid : List ℕ) (moment : ℕ) (entries : List Entry) → IsDistinct bytes_eq (keys_of entries)
    → lookup (bytes_eq wid) entries ≡ None → state_of wid (fresh moment (workers_of entries)) ≡ None
told_none wid moment entries apart none = told_is wid moment entries apart ∙ ap (told moment) none
