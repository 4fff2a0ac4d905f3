-- What a flush does.
use Rattle.std.proofs.Common.{◌≡◌, refl, ℕ, List, ◌++◌}
use Rattle.fk_model.specs.declared.ask.Ask.TheVariants.{Flush}
use Rattle.fk_model.specs.declared.move_.Move.{Move}
use Rattle.fk_model.specs.State.{KeptState, State}
use Rattle.fk_model.specs.Mutated.{moves_of_flush}
use Rattle.fk_model.specs.Said.{ok, said}
use Rattle.fk_model.specs.Turns.{moves_of}
use Rattle.fk_plan.specs.declared.numbers.Numbers.{Numbers}
use Rattle.fk_plan.specs.Plans.{AreNumbersOf, IsDone}

pub flushed : (before : KeptState) (up : State) (moment word : ℕ) (front moves : List Move) (numbers : Numbers)
    → AreNumbersOf up.kept numbers → moves ≡ front ++ moves_of_flush before
    → IsDone before up Flush moment word ok front moves (record numbers { processed = 0; failures = 0 })
unfolding said moves_of
flushed before up moment word front moves numbers has made =
    record { answer = refl; made = made; counted = record { next = has.next; processed = refl; failures = refl } }
