use Rattle.std.proofs.Common.{◌∙◌, ap, filter, rules, tests}
use Rattle.std.proofs.lemmas.Iterator.Consumers.{YieldsList-end}
use Rattle.std.proofs.lemmas.Iterator.Splits.{YieldsList-from_slice_split}
use Rattle.fk_model.specs.Payloads.{is_some_text}
use Rattle.fk_command.proofs.fetch.names_in.Goals as goal

pub returns : goal.returns
returns c =
    let end = YieldsList-end (YieldsList-from_slice_split _ _ c.args.arguments.now (cc) (cc) (cc) (λ x r q k. search (rules, tests))) c.loop-name.yielded _ c.loop-name.yielded_by _ _ c.in-None.is c.next.ensures.steps in
    c.loop-name.invariant ∙ ap (filter is_some_text) end.0
