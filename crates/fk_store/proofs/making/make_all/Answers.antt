use Rattle.std.proofs.Common.{arith, ap, length, sym, ◌∙◌, Err}
use Rattle.fk_store.proofs.UnderWay.{all_made, handed_on, one_made, one_unfit}
use Rattle.fk_store.proofs.making.make_all.Goals as goal

pub making-preserved : goal.making-preserved
making-preserved c = record {
  way = one_made _ _ _ _ _ _ _ c.making.invariant.way c.in-Some.ensures.steps.0 c.in_ok-make_one.ensures.ok
      c.in_ok-make_one.ensures.made;
  empty = c.in_ok-make_one.ensures.empty;
  count = omega (arith, c.making.invariant.count, c.in-Some.ensures.steps.1, ap length c.in-Some.ensures.steps.0);
}

pub returns-in_err-make_one-clause-unfit : goal.returns-in_err-make_one-clause-unfit
returns-in_err-make_one-clause-unfit c = λ damage is.
    one_unfit _ _ _ _ _ _ c.making.invariant.way c.in-Some.ensures.steps.0
    (c.make_one.ensures.unfit damage (c.in_err-make_one.was ∙ ap Err (handed_on _ _ _ c.from_residual.ensures.1 is)))

pub returns-clause-ok : goal.returns-clause-ok
returns-clause-ok c =
    all_made _ _ _ _ c.making.invariant.way (sym c.making.invariant.count ∙ c.in-None.ensures.steps.0)
