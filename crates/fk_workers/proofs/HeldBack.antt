-- Who gets no new job, by the state that is told.
use Rattle.std.proofs.Common.{◌≡◌, ◌∙◌, refl, ap, sym, ℕ, Bool, true, false, List, [], ◌∷◌, Option}
use Rattle.std.specs.Prelude.{◌||◌, not, bytes_eq}
use Rattle.std.specs.List.{IsDistinct}
use Rattle.std.specs.Cmp.Lexicographic.{bytes_decides, nat_list_eq_equiv}
use Rattle.std.proofs.lemmas.Map.Keys.{IsDistinct-head, IsDistinct-tail}
use Rattle.std.specs.Map.{keys_of}
use Rattle.fk_model.specs.declared.work_state.WorkState.{WorkState}
use Rattle.fk_model.specs.State.{Worker}
use Rattle.fk_model.specs.Requests.{is_held_back, is_running}
use Rattle.fk_model.specs.Workers.{fresh, holds_back, state_of, AreApart}
use Rattle.fk_model.proofs.Listed.{fresh_apart, wids_of, IsNoneOf}
use Rattle.fk_workers.specs.Entries.{Entry, workers_of}
use Rattle.fk_workers.proofs.Telling.{apart_workers}

-- a wid that is equal to one from which all others differ holds nobody of these back
nobody : (wid name : List ℕ) (workers : List Worker) → wid ≡ name
    → IsNoneOf name (wids_of workers) → is_held_back workers wid ≡ false
nobody wid name [] same differ = refl
nobody wid name (worker ∷ workers) same differ =
    let other : bytes_eq worker.wid wid ≡ false =
    nat_list_eq_equiv.symm worker.wid wid ∙ ap (λ (w : List ℕ). bytes_eq w worker.wid) same ∙ differ.0 in
    rw other (nobody wid name workers same differ.1)

or_false : (b c : Bool) → c ≡ false → b || c ≡ b
or_false true c is = refl
or_false false c is = is

-- a worker is held back exactly where its state is told, and isn't that of one that runs
held_back : (wid : List ℕ) (workers : List Worker) → AreApart workers
    → is_held_back workers wid ≡ holds_back (state_of wid workers)
held_back wid [] apart = refl
held_back wid (worker ∷ workers) apart =
    step (bytes_eq wid worker.wid) refl
    (held_back wid workers (IsDistinct-tail bytes_eq worker.wid (wids_of workers) apart))
  where
    step : (b : Bool) → bytes_eq wid worker.wid ≡ b
        → is_held_back workers wid ≡ holds_back (state_of wid workers)
        → is_held_back (worker ∷ workers) wid
        ≡ holds_back (state_of wid (worker ∷ workers))
    step true is rest =
        let none = nobody wid worker.wid workers ((bytes_decides wid worker.wid).0 is)
        (IsDistinct-head bytes_eq worker.wid (wids_of workers) apart) in
        rw (is, nat_list_eq_equiv.symm worker.wid wid, is) (or_false (not (is_running worker.state)) _ none)
    step false is rest = rw (is, nat_list_eq_equiv.symm worker.wid wid, is) rest

pub held_told : (wid : List ℕ) (moment : ℕ) (entries : List Entry) (told : Option WorkState) → IsDistinct bytes_eq (keys_of entries)
    → told ≡ state_of wid (fresh moment (workers_of entries))
    → is_held_back (fresh moment (workers_of entries)) wid ≡ holds_back told
held_told wid moment entries told apart is =
    held_back wid (fresh moment (workers_of entries))
    (fresh_apart moment (workers_of entries) (apart_workers entries apart))
    ∙ ap holds_back (sym is)
