use Rattle.std.proofs.Common.{arith}
use Rattle.std.proofs.lemmas.Grind.{common_steps}
use Rattle.std.proofs.lemmas.List.{map-append}
use Rattle.std.proofs.lemmas.List.Elements.{filter_map-append}
use Rattle.fk_command.proofs.fail.strings_in.Goals as goal

pub loop-element-preserved : goal.loop-element-preserved
loop-element-preserved c = (
  grind (arith, common_steps, filter_map-append, map-append),
  c.in_ok-add_string.ensures.each c.loop-element.invariant.1,
)
