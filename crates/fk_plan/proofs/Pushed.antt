-- What a push does.
use Rattle.std.proofs.Common.{ap, refl, ℕ, ◌+◌, List, [], ◌∷◌, ◌++◌, length, arith}
use Rattle.fk_frame.specs.declared.reply.Reply.TheVariants.{Bulk}
use Rattle.fk_job.specs.declared.job.Job.{Job}
use Rattle.fk_model.specs.declared.ask.Ask.TheVariants.{Push, PushBatch}
use Rattle.fk_model.specs.declared.move_.Move.{Move}
use Rattle.fk_model.specs.declared.move_.Move.TheVariants.{Add}
use Rattle.fk_model.specs.State.{KeptState, State}
use Rattle.fk_model.specs.Requests.{pushed, pushed_row, all_pushed}
use Rattle.fk_model.specs.Said.{ok, said}
use Rattle.fk_model.specs.Turns.{moves_of, moves_of_push}
use Rattle.fk_plan.specs.declared.numbers.Numbers.{Numbers}
use Rattle.fk_plan.specs.Plans.{AreNumbersOf, IsDone}

-- one job
pub push_done : (before : KeptState) (up : State) (job : Job) (moment word : ℕ) (front : List Move) (numbers : Numbers)
    → AreNumbersOf up.kept numbers
    → IsDone before up (Push job) moment word ok front
    (front ++ Add numbers.next (pushed_row moment numbers.next job) ∷ [])
    (record numbers { next = numbers.next + 1 })
unfolding said moves_of
push_done before up job moment word front numbers has = record {
  answer = refl;
  made = rw has.next refl;
  counted = record {
    next = ap (λ n. n + 1) has.next;
    processed = has.processed;
    failures = has.failures;
  };
}

-- the numbers behind jobs at once
numbers_behind : (moment : ℕ) (jobs : List Job) (up : KeptState) (numbers : Numbers) → AreNumbersOf up numbers
    → AreNumbersOf (all_pushed moment up jobs) (record numbers { next = numbers.next + length jobs })
numbers_behind moment [] up numbers has =
    record { next = omega (arith, has.next); processed = has.processed; failures = has.failures }
numbers_behind moment (job ∷ jobs) up numbers has =
    let rest = numbers_behind moment jobs (pushed moment up job) (record numbers { next = numbers.next + 1 })
    (record { next = ap (λ n. n + 1) has.next; processed = has.processed; failures = has.failures }) in
    record { next = omega (arith, rest.next); processed = rest.processed; failures = rest.failures }

pub batch_done : (before : KeptState) (up : State) (jobs : List Job) (text : List ℕ) (moment word : ℕ) (front : List Move)
    (numbers : Numbers) → AreNumbersOf up.kept numbers
    → IsDone before up (PushBatch jobs text) moment word (Bulk text) front
    (front ++ moves_of_push moment numbers.next jobs)
    (record numbers { next = numbers.next + length jobs })
unfolding said moves_of
batch_done before up jobs text moment word front numbers has = record {
  answer = refl;
  made = rw has.next refl;
  counted = numbers_behind moment jobs up.kept numbers has;
}
