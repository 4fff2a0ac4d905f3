use Rattle.std.proofs.Common.{◌∙◌, refl, sym, ap, length, arith}
use Rattle.fk_model.specs.State.{KeptState}
use Rattle.fk_model.specs.Due.{IsUpToDate}
use Rattle.fk_plan.proofs.DueNumbers.{up_next_pairs, up_processed, up_failures, ranks_fit}
use Rattle.fk_plan.proofs.NothingDue.{none_due, none_expired, no_moves, stays, not_idle}
use Rattle.fk_plan.proofs.bringing.bring_up.Goals as goal

-- ---- nothing is due

on : (c : goal.After-new) → IsUpToDate c.args.moment c.args.tables.now.kept
on c = c.if-nothing_due.ensures.0 refl

pub returns-then-nothing_due-clause-ok : goal.returns-then-nothing_due-clause-ok
returns-then-nothing_due-clause-ok c =
    let same = stays c.args.moment c.args.word c.args.tables.now.kept (on c) in
    record {
      next = c.of-numbers.ensures.next ∙ ap (λ (kept : KeptState). kept.next) same;
      processed = c.of-numbers.ensures.processed ∙ ap (λ (kept : KeptState). kept.processed) same;
      failures = c.of-numbers.ensures.failures ∙ ap (λ (kept : KeptState). kept.failures) same;
      expired = ap length (sym (none_expired c.args.moment c.args.tables.now.kept (on c)));
      due = c.new.ensures ∙ sym (none_due c.args.moment c.args.tables.now.kept (on c));
    }

pub returns-then-nothing_due-clause-moves : goal.returns-then-nothing_due-clause-moves
returns-then-nothing_due-clause-moves c =
    c.requires.empty ∙ no_moves c.args.moment c.args.word c.args.tables.now.kept (on c)

-- ---- something is due

pub returns-in_err-forget-clause-ready : goal.returns-in_err-forget-clause-ready
returns-in_err-forget-clause-ready c =
    not_idle c.nothing_due.result c.if-nothing_due.false c.nothing_due.ensures.1

pub returns-in_err-expired-clause-ready : goal.returns-in_err-expired-clause-ready
returns-in_err-expired-clause-ready c =
    not_idle c.nothing_due.result c.if-nothing_due.false c.nothing_due.ensures.1

pub returns-in_err-due-clause-ready : goal.returns-in_err-due-clause-ready
returns-in_err-due-clause-ready c =
    not_idle c.nothing_due.result c.if-nothing_due.false c.nothing_due.ensures.1

pub returns-in_err-enqueue-clause-ready : goal.returns-in_err-enqueue-clause-ready
returns-in_err-enqueue-clause-ready c =
    not_idle c.nothing_due.result c.if-nothing_due.false c.nothing_due.ensures.1

pub enqueue-requires : goal.enqueue-requires
enqueue-requires c =
    ranks_fit c.args.tables.now.kept c.args.moment c.of-numbers.result.next c.in_ok-due.due.items c.requires.kept
    c.of-numbers.ensures.within c.of-numbers.ensures.next c.in_ok-due.ensures

pub behind-requires : goal.behind-requires
behind-requires c =
    let fits = ranks_fit c.args.tables.now.kept c.args.moment c.of-numbers.result.next c.in_ok-due.due.items
    c.requires.kept c.of-numbers.ensures.within c.of-numbers.ensures.next c.in_ok-due.ensures in
    omega (arith, fits)

pub returns-clause-ok : goal.returns-clause-ok
returns-clause-ok c = record {
  next = rw (c.behind.ensures.next, c.len.ensures, c.of-numbers.ensures.next, c.in_ok-due.ensures)
      (up_next_pairs c.args.tables.now.kept c.args.moment c.args.word c.requires.kept);
  processed = rw (c.behind.ensures.processed, c.of-numbers.ensures.processed, c.in_ok-expired.ensures.count)
      (up_processed c.args.tables.now.kept c.args.moment c.args.word c.requires.kept);
  failures = rw (c.behind.ensures.failures, c.of-numbers.ensures.failures, c.in_ok-expired.ensures.count)
      (up_failures c.args.tables.now.kept c.args.moment c.args.word c.requires.kept);
  expired = c.in_ok-expired.ensures.count;
  due = c.in_ok-due.ensures;
}
