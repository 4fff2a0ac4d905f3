-- What a crash leaves is kept by a life: the one so far, with what the crash may have added to its last run.
use Rattle.std.proofs.Common.{◌≡◌, refl, subst, ℕ, List, [], ◌∷◌, inl, inr}
use Rattle.std.specs.Prelude.{Option, None, Some}
use Rattle.fk_model.specs.declared.answer.Answer.{Answer}
use Rattle.fk_model.specs.declared.entry.Entry.{Entry}
use Rattle.fk_model.specs.declared.move_.Move.{Move}
use Rattle.fk_model.specs.State.{KeptState, empty}
use Rattle.fk_model.specs.Changes.{after_moves}
use Rattle.fk_lives.specs.Standing.{Stands}
use Rattle.fk_lives.specs.OnDisk.{Server, after_on_disk, moves_of_entry, IsOver, IsRightOnDisk, IsStepOnDisk}
use Rattle.fk_lives.specs.Doubt.{IsDoubtOf, StandsWithDoubt}
use Rattle.fk_lives.specs.Lives.{AddedCommand, Run, kept_behind, BeginsNew, GoesOnFrom, IsLife, MayBeAdded, kept_after}
use Rattle.fk_lives.specs.Crashes.{with_run, IsLifeWith, MayReach}
use Rattle.fk_lives.proofs.Runs.{goes_on, kept_goes_on}

-- ---- the last run

abbrev run_of : Server → List Entry → Option AddedCommand → Run
run_of server entries added = record { start = server; entries = entries; added = added }

-- what a crash added to it changes nothing of how the runs begin
begins_with : (runs : List Run) (server : Server) (entries : List Entry) (added : Option AddedCommand)
    → BeginsNew (with_run runs server entries None) → BeginsNew (with_run runs server entries added)
begins_with [] server entries added begins = begins
begins_with (run ∷ runs) server entries added begins = begins

last_may : (kept : KeptState) (server : Server) (entries : List Entry) (added : Option AddedCommand)
    → MayBeAdded (run_of server entries added) added → GoesOnFrom kept (run_of server entries None ∷ [])
    → GoesOnFrom kept (run_of server entries added ∷ [])
unfolding GoesOnFrom
last_may kept server entries added may life = (life.0, life.1, may, tt)

last_keeps : (kept : KeptState) (run : Run) → kept_after kept (run ∷ []) ≡ kept_behind run
unfolding kept_after
last_keeps kept run = refl

life_with : (runs : List Run) (server : Server) (entries : List Entry) (added : Option AddedCommand) (a b : List ℕ)
    → IsLife (with_run runs server entries None) → MayBeAdded (run_of server entries added) added
    → Stands a b (kept_behind (run_of server entries added)) → IsLifeWith runs server entries a b
life_with runs server entries added a b life may stands =
    let run = run_of server entries added in
    let parts = (goes_on empty runs (run_of server entries None ∷ [])).0 life.1 in
    let more = (goes_on empty runs (run ∷ [])).1
    (parts.0, last_may (kept_after empty runs) server entries added may parts.1) in (
      added,
      (begins_with runs server entries added life.0, more),
      rw (kept_goes_on empty runs (run ∷ []), last_keeps (kept_after empty runs) run) stands,
    )

-- ---- what stands

-- the command of an entry, for whose turn the state was this server's
abbrev command_of : Server → Entry → AddedCommand
command_of server entry = record {
  state = server.state;
  ask = entry.ask;
  moment = entry.told.moment;
  word = entry.told.word;
}

-- between turns: the kept state, or it with what is in doubt
pub in_doubt : (runs : List Run) (server : Server) (entries : List Entry) (doubt : Option (List Move)) (a b : List ℕ)
    → IsLife (with_run runs server entries None) → IsDoubtOf server entries doubt
    → StandsWithDoubt (after_on_disk server entries).state.kept doubt a b → IsLifeWith runs server entries a b
in_doubt runs server entries None a b life is stands = life_with runs server entries None a b life tt stands
in_doubt runs server entries (Some moves) a b life is (inl stands) =
    life_with runs server entries None a b life tt stands
in_doubt runs server entries (Some moves) a b life (entry, refused, are) (inr stands) =
    let command = command_of (after_on_disk server refused.front) entry in
    life_with runs server entries (Some command) a b life
    (inl (record { entry = entry; refused = refused; state = refl; ask = refl; moment = refl; word = refl }))
    (subst (λ all. Stands a b (after_moves (after_on_disk server entries).state.kept all)) are stands)

within_of : (server : Server) (entry : Entry) (answer : Answer) → MayReach answer
    → IsRightOnDisk server entry answer → ¬ IsOver server entry.ask entry.told.moment entry.told.word
within_of server entry answer (inl (reply, said)) right =
    let is = subst (λ one. IsRightOnDisk server entry one) said right in is.0
within_of server entry answer (inr failed) right =
    let is = subst (λ one. IsRightOnDisk server entry one) failed right in is.0

-- within a turn: the kept state with the moves of the turn
pub on_its_way : (runs : List Run) (server after : Server) (entries : List Entry) (entry : Entry) (a b : List ℕ)
    → IsLife (with_run runs server entries None) → IsStepOnDisk (after_on_disk server entries) entry after
    → MayReach entry.answer
    → Stands a b (after_moves (after_on_disk server entries).state.kept
    (moves_of_entry (after_on_disk server entries) entry))
    → IsLifeWith runs server entries a b
on_its_way runs server after entries entry a b life step reaches stands =
    let now = after_on_disk server entries in
    life_with runs server entries (Some (command_of now entry)) a b life
    (inr (record {
      state = refl;
      in_range = step.in_range;
      moment = step.told.moment;
      word = step.told.word;
      within = within_of now entry entry.answer reaches step.answer;
    }))
    stands
