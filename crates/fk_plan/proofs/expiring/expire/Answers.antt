use Rattle.std.proofs.Common.{ap, ◌∙◌, length, arith}
use Rattle.std.specs.Vec.Iter.{into_iter_items}
use Rattle.std.proofs.lemmas.List.{length-append}
use Rattle.fk_model.specs.Failing.{expiry}
use Rattle.fk_model.specs.Bringing.{moves_of_failed}
use Rattle.fk_plan.proofs.DueMoves.{rows_leased, begins, counts, expired_leased, expired_count, one_failed}
use Rattle.fk_plan.proofs.expiring.expire.Goals as goal

pub failing-init : goal.failing-init
failing-init c = record {
  left = begins
      (λ leases. moves_of_failed expiry c.args.moment c.args.word (rows_leased c.args.tables.now.kept.rows leases))
      _ _ (into_iter_items c.into_iter-ticket-iterator.result) c.into_vec-ticket-items.result.items _ _ _ _
      c.in_ok-reserve.ensures.same
      c.into_iter-ticket-iterator.ensures.into_iter_gives.0 c.into_vec-ticket-items.ensures
      c.in_ok-expired.ensures.ok c.new-expired.ensures
      (ap (moves_of_failed expiry c.args.moment c.args.word)
      (expired_leased c.args.tables.now.kept c.args.moment c.requires.by_ticket));
  room = omega (arith, ap length c.in_ok-reserve.ensures.same);
}

pub failing-preserved-in_ok-push : goal.failing-preserved-in_ok-push
failing-preserved-in_ok-push c = record {
  left = one_failed _ _ _ _ _ _ _ _ _ _ _ _ _ c.in-Some-row.ensures c.in-Some.ensures.steps.0 c.expiry.ensures
      c.in_ok-fail_row.ensures c.in_ok-push.ensures.ok
      ∙ c.failing.invariant.left;
  room = omega (arith, simp length-append at (ap length c.in_ok-push.ensures.ok));
}

pub returns-clause-count : goal.returns-clause-count
returns-clause-count c =
    counts _ _ _ _ c.len-count.ensures c.in_ok-expired.ensures.ok c.new-expired.ensures
    ∙ expired_count c.args.tables.now.kept c.args.moment
