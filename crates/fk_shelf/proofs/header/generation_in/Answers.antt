use Rattle.std.proofs.Common.{refl, IsTrue}
use Rattle.fk_shelf.proofs.Numbers.{no_generation}
use Rattle.fk_shelf.proofs.header.generation_in.Goals as goal

pub returns-then-not-is_generation-clause-err : goal.returns-then-not-is_generation-clause-err
returns-then-not-is_generation-clause-err c = (
  refl,
  no_generation _ _ c.in_ok-generation.ensures.ok
      (λ is. let yes : IsTrue c.is_generation.result = c.is_generation.ensures.1 is in
      absurd (cc (c.if-not-is_generation.true))),
)
