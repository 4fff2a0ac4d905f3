-- What is planned leads to what the turn leaves.
use Rattle.std.proofs.Common.{◌≡◌, ◌↔◌, ℕ, ◌<◌, List, []}
use Rattle.fk_time.specs.Moments.{greatest}
use Rattle.fk_frame.specs.declared.reply.Reply.{Reply}
use Rattle.fk_model.specs.declared.ask.Ask.{Ask}
use Rattle.fk_model.specs.declared.move_.Move.{Move}
use Rattle.fk_model.specs.State.{State}
use Rattle.fk_model.specs.Between.{IsWellKept}
use Rattle.fk_model.specs.Range.{IsInRange}
use Rattle.fk_model.specs.Changes.{Lead}
use Rattle.fk_model.specs.Turns.{turn}
use Rattle.fk_model.specs.History.{IsOverLimit}
use Rattle.fk_model.proofs.Turning.{turn_leads, turn_stays}
use Rattle.fk_plan.specs.Plans.{IsPlan}

pub plan_leads : (state : State) (ask : Ask) (moment word : ℕ) (reply : Reply) (moves : List Move)
    → IsPlan state ask moment word reply moves → IsWellKept state.kept → IsInRange ask → moment < greatest
    → ¬ IsOverLimit state ask moment word → Lead state.kept moves (turn state ask moment word).state.kept
plan_leads state ask moment word reply moves planned well range told within =
    rw planned.made (turn_leads state ask moment word well range told within)

pub plan_stays : (state : State) (ask : Ask) (moment word : ℕ) (reply : Reply) (moves : List Move)
    → IsPlan state ask moment word reply moves → IsWellKept state.kept
    → (moves ≡ []) ↔ ((turn state ask moment word).state.kept ≡ state.kept)
plan_stays state ask moment word reply moves planned well =
    rw planned.made (turn_stays state ask moment word well)
