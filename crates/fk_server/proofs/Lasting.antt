-- What held of both disks when the server was opened holds of those moments at the end.
use Rattle.std.proofs.Common.{◌↔◌, ℕ, ◌≤◌, Bool, arith, List, IsTrue}
use Rattle.std.specs.Prelude.{Option}
use Rattle.fk_model.specs.declared.move_.Move.{Move}
use Rattle.fk_model.specs.State.{KeptState}
use Rattle.fk_lives.specs.Doubt.{IsSound}
use Rattle.fk_lives.specs.Ways.{Disks, GoOn, HoldsBetween, KeepPast}
use Rattle.fk_lives.proofs.Roads.{onward_a, onward_b, past_then, way_later}

-- what was sound is sound
pub sound_later : (kept : KeptState) (doubt : Option (List Move)) (before after : Disks) → KeepPast before after
    → IsSound kept doubt (before.images_a before.at_a) (before.images_b before.at_b)
    → IsSound kept doubt (after.images_a before.at_a) (after.images_b before.at_b)
sound_later kept doubt before after past sound = λ a b here there.
    sound a b ((past.a before.at_a a (omega arith)).0 here) ((past.b before.at_b b (omega arith)).0 there)

-- a way up to then is one up to those moments
pub way_up_to : (Holds : List ℕ → List ℕ → Type 0) (start before after : Disks) → GoOn Holds start before
    → KeepPast before after
    → KeepPast start after
    × HoldsBetween Holds after start.at_a start.at_b before.at_a before.at_b
way_up_to Holds start before after on past = (
  past_then start before after (onward_a Holds before start.at_a start.at_b before.at_a before.at_b on.way)
      (onward_b Holds before start.at_a start.at_b before.at_a before.at_b on.way) on.past past,
  way_later Holds before after start.at_a start.at_b before.at_a before.at_b (omega arith) (omega arith) past on.way,
)

-- a disk that told of its bytes tells of them later on: what it then gave is still one of its images
pub tells_still : {D : Type 0} (told : D → Bool) (content : D → List ℕ) (moment : D → ℕ)
    (images : D → ℕ → List ℕ → Type 0) (before after : D)
    → ((at : ℕ) (image : List ℕ) → at ≤ moment before → (images after at image ↔ images before at image))
    → (IsTrue (told before) → images before (moment before) (content before))
    → ((at : ℕ) (image : List ℕ) → images after at image → IsTrue (told after))
    → IsTrue (told before) → IsTrue (told after)
tells_still told content moment images before after past has_content has_told tells =
    has_told (moment before) (content before)
    ((past (moment before) (content before) (omega arith)).1 (has_content tells))
