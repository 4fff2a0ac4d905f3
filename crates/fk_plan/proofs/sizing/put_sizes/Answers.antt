use Rattle.std.proofs.Common.{◌∙◌, sym, ap, subst, map, IsUtf8}
use Rattle.std.specs.Prelude.{List, fold}
use Rattle.std.proofs.Math.ListN.{drop_of_length-le}
use Rattle.serde_json.specs.View.{members_view}
use Rattle.fk_lists.specs.declared.size.Size.{Size}
use Rattle.fk_model.specs.Bringing.{brought_up}
use Rattle.fk_model.specs.Info.{with_queue}
use Rattle.fk_plan.proofs.Ahead.{left_from}
use Rattle.fk_plan.proofs.sizing.put_sizes.Goals as goal

pub put_size-requires-clause-spelled : goal.put_size-requires-clause-spelled
put_size-requires-clause-spelled c =
    subst (λ (one : Size). IsUtf8 one.name) (sym c.size-item.is)
    (c.requires.spelled c.naming.size-index c.size-item.result c.naming-test.true)

pub naming-preserved : goal.naming-preserved
naming-preserved c = λ word.
    let step = with_queue (brought_up c.args.tables.now.kept c.args.moment word).rows in
    rw (c.in_ok-put_size.ensures word)
    (ap (λ (left : List Size). fold step (members_view c.naming.members.entries) (map (λ (size : Size). size.name) left))
    (sym (left_from c.args.names.now c.naming.size-index c.size-item.result c.naming-test.true c.size-item.is))
    ∙ c.naming.invariant word)

pub returns : goal.returns
returns c = λ word.
    let step = with_queue (brought_up c.args.tables.now.kept c.args.moment word).rows in
    ap (λ (left : List Size). fold step (members_view c.naming.members.entries) (map (λ (size : Size). size.name) left))
    (sym (drop_of_length-le c.args.names.now c.naming-test.false))
    ∙ c.naming.invariant word
