-- A run over files that a life left is the next one of that life, and so is what a crash leaves within it.
use Rattle.std.proofs.Common.{◌≡◌, ◌⊎◌, ◌∙◌, ℕ, List, [], ◌∷◌, ◌++◌, ap, arith, refl, sym, subst, inl, inr}
use Rattle.std.specs.Prelude.{Option, None}
use Rattle.std.proofs.lemmas.List.{append-nil}
use Rattle.fk_model.specs.declared.entry.Entry.{Entry}
use Rattle.fk_model.specs.declared.move_.Move.{Move}
use Rattle.fk_model.specs.State.{KeptState, State, Worker, empty, without_workers}
use Rattle.fk_lives.specs.Crashes.{IsLifeWith, with_run}
use Rattle.fk_lives.specs.Doubt.{IsDoubtOf, IsSound}
use Rattle.fk_lives.specs.Files.{IsBlank}
use Rattle.fk_lives.specs.Lives.{BeginsNew, GoesOnFrom, IsLife, Run, kept_after, kept_behind}
use Rattle.fk_lives.specs.OnDisk.{Server, after_on_disk, new_server, next_on_disk, IsLegalOnDisk, IsStepOnDisk}
use Rattle.fk_lives.specs.Standing.{HaveNumbers, Stands}
use Rattle.fk_lives.specs.Ways.{Disks, EachPair, HoldsBetween, KeepPast}
use Rattle.fk_lives.proofs.AfterCrash.{in_doubt, on_its_way}
use Rattle.fk_lives.proofs.AsWithout.{on_disk_goes_on}
use Rattle.fk_lives.proofs.OneState.{one_number, one_size, one_state}
use Rattle.fk_lives.proofs.Roads.{way_less}
use Rattle.fk_shelf.specs.Opening.{StandsForOne}
use Rattle.fk_conn.specs.Crashing.{StandsAmid, StandsBehind, StandsWithNext}
use Rattle.fk_server.specs.Outside.{Outside, disks_at}
use Rattle.fk_server.specs.Serving.{IsLeftInOpening, IsLeftWithin, LivesThrough, MayGoOn}

-- ---- the start of a run

-- a server is its state and its two numbers
server_is : (server : Server) (state : State) (number size : ℕ) → server.state ≡ state → server.number ≡ number
    → server.size ≡ size → server ≡ record { state = state; number = number; size = size }
server_is server state number size states numbers sizes =
    let make : State → ℕ → ℕ → Server = λ s n z. record { state = s; number = n; size = z } in
    ap (λ s. make s server.number server.size) states ∙ ap (λ n. make state n server.size) numbers
    ∙ ap (λ z. make state number z) sizes

-- with no worker it begins without workers
begins_alone : (server : Server) (kept : KeptState) → server.state.workers ≡ [] → server.state.kept ≡ kept
    → server.state ≡ without_workers kept
begins_alone server kept alone keeps =
    let make : KeptState → List Worker → State = λ k w. record { kept = k; workers = w } in
    ap (λ k. make k server.state.workers) keeps ∙ ap (λ w. make kept w) alone

-- on blank files it is a new one
new_on_blank : (server : Server) (a b : List ℕ) → server.state ≡ without_workers empty
    → HaveNumbers a b server.number server.size → IsBlank a → IsBlank b → server ≡ new_server
new_on_blank server a b starts have blank blank_too =
    let new : HaveNumbers a b 1 60 =
    record { told = None; tells = (blank, blank_too); next = refl; behind = refl } in
    server_is server (without_workers empty) 1 60 starts (one_number a b 1 60 server.number server.size new have)
    (one_size a b 1 60 server.number server.size new have)

-- no run keeps nothing
nothing_after : without_workers (kept_after empty []) ≡ without_workers empty
unfolding kept_after
nothing_after = refl

-- ---- a life with this run

begins_with_it : (runs : List Run) (server : Server) (entries : List Entry) → BeginsNew runs
    → (runs ≡ [] → server ≡ new_server) → BeginsNew (with_run runs server entries None)
begins_with_it [] server entries begins new = new refl
begins_with_it (run ∷ runs) server entries begins new = begins

-- runs go on with one more
goes_on_with : (kept : KeptState) (runs : List Run) (run : Run) → GoesOnFrom kept runs
    → GoesOnFrom (kept_after kept runs) (run ∷ []) → GoesOnFrom kept (runs ++ run ∷ [])
unfolding GoesOnFrom kept_after
goes_on_with kept [] run life last = last
goes_on_with kept (first ∷ runs) run (starts, legal, may, life) last =
    (starts, legal, may, goes_on_with (kept_behind first) runs run life last)

goes_on_by_it : (kept : KeptState) (server : Server) (entries : List Entry) → server.state ≡ without_workers kept
    → IsLegalOnDisk server 0 entries
    → GoesOnFrom kept (record { start = server; entries = entries; added = None } ∷ [])
unfolding GoesOnFrom
goes_on_by_it kept server entries starts legal = (starts, legal, tt, tt)

-- counts of faults begin with 0
from_zero : (server : Server) (faults : ℕ) (entries : List Entry) → IsLegalOnDisk server faults entries
    → IsLegalOnDisk server 0 entries
unfolding IsLegalOnDisk
from_zero server faults [] legal = tt
from_zero server faults (entry ∷ entries) (step, before, rest) = (step, omega arith, rest)

first_step : (server : Server) (faults : ℕ) (entry : Entry) (entries : List Entry)
    → IsLegalOnDisk server faults (entry ∷ entries) → IsStepOnDisk server entry (next_on_disk server entry)
unfolding IsLegalOnDisk
first_step server faults entry entries legal = legal.0

module _ (runs : List Run) (server : Server) (entries : List Entry) (life : IsLife runs)
    (new : runs ≡ [] → server ≡ new_server) (starts : server.state ≡ without_workers (kept_after empty runs))
    (legal : IsLegalOnDisk server 0 entries) where
  -- of each front
  life_of_front : (front back : List Entry) → entries ≡ front ++ back → IsLife (with_run runs server front None)
  life_of_front front back whole =
      let up_to = ((on_disk_goes_on server 0 front back).0 (subst (λ all. IsLegalOnDisk server 0 all) whole legal)).0 in
      let run : Run = record { start = server; entries = front; added = None } in (
        begins_with_it runs server front life.0 new,
        goes_on_with empty runs run life.1 (goes_on_by_it (kept_after empty runs) server front starts up_to),
      )

  -- ---- what a crash leaves

  left_by : (front back : List Entry) (a b : List ℕ) → entries ≡ front ++ back → IsLifeWith runs server front a b
      → IsLeftWithin runs server entries a b
  left_by front back a b whole life_with = record { front = front; back = back; whole = whole; left = life_with }

  left_behind : (front back : List Entry) (a b : List ℕ) → entries ≡ front ++ back
      → StandsBehind server front a b ⊎ StandsWithNext (after_on_disk server front) back a b
      → IsLeftWithin runs server entries a b
  left_behind front back a b whole (inl (doubt, is, stands)) =
      left_by front back a b whole
      (in_doubt runs server front doubt a b (life_of_front front back whole) is stands)
  left_behind front [] a b whole (inr stands) = absurd stands
  left_behind front (entry ∷ back) a b whole (inr (reaches, stands)) =
      let rest = ((on_disk_goes_on server 0 front (entry ∷ back)).0
      (subst (λ all. IsLegalOnDisk server 0 all) whole legal)).1 in
      left_by front (entry ∷ back) a b whole
      (on_its_way runs server (next_on_disk (after_on_disk server front) entry) front entry a b
      (life_of_front front (entry ∷ back) whole)
      (first_step (after_on_disk server front) _ entry back rest) reaches stands)

  pub left_amid : (a b : List ℕ) → StandsAmid server entries a b → IsLeftWithin runs server entries a b
  left_amid a b amid = left_behind amid.front amid.back a b amid.whole amid.stands

-- ---- a run that goes on

-- the files stand for what the runs left, and the server for what the files do
module _ (runs : List Run) (a b : List ℕ) (may : MayGoOn runs a b) (server : Server) (faults : ℕ) (entries : List Entry)
    (stands : Stands a b server.state.kept × HaveNumbers a b server.number server.size)
    (alone : server.state.workers ≡ []) (legal : IsLegalOnDisk server faults entries) where
  starts_from : server.state ≡ without_workers (kept_after empty runs)
  starts_from =
      begins_alone server (kept_after empty runs) alone
      (one_state a b (kept_after empty runs) server.state.kept may.stands stands.0)

  is_new : runs ≡ [] → server ≡ new_server
  is_new none =
      let start : server.state ≡ without_workers (kept_after empty []) =
      subst (λ all. server.state ≡ without_workers (kept_after empty all)) none starts_from in
      let blank = may.blank none in
      new_on_blank server a b (start ∙ nothing_after) stands.1 blank.0 blank.1

  pub run_lives : IsLife (with_run runs server entries None)
  run_lives =
      life_of_front runs server entries may.life is_new starts_from (from_zero server faults entries legal) entries []
      (sym (append-nil entries))

  pub crash_lives : (now : Disks) (at_a at_b end_a end_b : ℕ)
      → HoldsBetween (StandsAmid server entries) now at_a at_b end_a end_b
      → HoldsBetween (IsLeftWithin runs server entries) now at_a at_b end_a end_b
  crash_lives now at_a at_b end_a end_b way =
      way_less (StandsAmid server entries) (IsLeftWithin runs server entries) now at_a at_b end_a end_b
      (left_amid runs server entries may.life is_new starts_from (from_zero server faults entries legal)) way

  -- at the end behind all of it, with or without what is in doubt
  pub back_lives : (doubt : Option (List Move)) → IsDoubtOf server entries doubt
      → (images_a images_b : List ℕ → Type 0) → IsSound (after_on_disk server entries).state.kept doubt images_a images_b
      → EachPair (IsLifeWith runs server entries) images_a images_b
  back_lives doubt is images_a images_b sound a b here there =
      in_doubt runs server entries doubt a b run_lives is (sound a b here there)

-- ---- opening

abbrev first_run : Run
first_run = record { start = new_server; entries = []; added = None }

-- a life that begins with a run without a turn
first_life : IsLife (first_run ∷ [])
unfolding GoesOnFrom IsLegalOnDisk
first_life = (refl, (refl, tt, tt, tt))

keeps_nothing : kept_after empty (first_run ∷ []) ≡ empty
unfolding kept_after
keeps_nothing = refl

kept_by_none : kept_after empty [] ≡ empty
unfolding kept_after
kept_by_none = refl

-- what stands for one of two that are the same stands for it
the_one : {kept : KeptState} {a b : List ℕ} → StandsForOne kept kept a b → Stands a b kept
the_one (inl stands) = stands
the_one (inr stands) = stands

left_in_opening : (runs : List Run) → IsLife runs → (a b : List ℕ)
    → StandsForOne (kept_after empty runs) (kept_after empty runs) a b → IsLeftInOpening runs a b
left_in_opening [] life a b stands = record {
  life = first_life;
  stands = subst (λ kept. Stands a b kept) (kept_by_none ∙ sym keeps_nothing) (the_one stands);
  blank = λ none. absurd (cc);
}
left_in_opening (run ∷ runs) life a b stands =
    record { life = life; stands = the_one stands; blank = λ none. absurd (cc) }

pub lives_through : (old new : Outside) (start : Disks)
    → ((kept : KeptState) → EachPair (StandsForOne kept kept) (old.a.images old.a.moment) (old.b.images old.b.moment)
    → KeepPast (disks_at old) (disks_at new)
    × HoldsBetween (StandsForOne kept kept) (disks_at new) old.a.moment old.b.moment start.at_a start.at_b)
    → LivesThrough old new start.at_a start.at_b
lives_through old new start crash runs life each =
    let kept = kept_after empty runs in
    let way = crash kept (λ a b here there. inl (each a b here there)) in
    way_less (StandsForOne kept kept) (IsLeftInOpening runs) (disks_at new) old.a.moment old.b.moment
    start.at_a start.at_b (left_in_opening runs life) way.1
