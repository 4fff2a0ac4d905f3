use Rattle.std.proofs.Common.{◌∙◌, ◌++◌, ◌∷◌, [], append_assoc, refl}
use Rattle.std.proofs.lemmas.List.{append-nil}
use Rattle.std.proofs.lemmas.Result.{err_from_is_err_and}
use Rattle.fk_conn.proofs.Turning.{turned_both, turned_nothing}
use Rattle.fk_conn.proofs.lines.serve_lines.Goals as goal

pub returns-in_err-ask-clause-served : goal.returns-in_err-ask-clause-served
returns-in_err-ask-clause-served g c =
    let (made, turned, served) = c.lines.invariant.served in
    let p = err_from_is_err_and c.from_residual.result c.from_residual.ensures.1 in (
      made,
      turned,
      λ gate first input history was. rw (p.1, p.2)
          (c.in_err-ask.ensures.served gate first input (history ++ made) (served gate first input history was)),
    )

pub returns-in_err-answer_ask-in-Ask-clause-served : goal.returns-in_err-answer_ask-in-Ask-clause-served
returns-in_err-answer_ask-in-Ask-clause-served g c =
    let (made, turned, served) = c.lines.invariant.served in
    let (entry, more, sent) = c.in_err-answer_ask-in-Ask.ensures.served in
    let residual = c.from_residual-in_err-answer_ask-in-Ask in
    let p = err_from_is_err_and residual.result residual.ensures.1 in (
      made ++ entry ∷ [],
      turned_both _ _ _ made (entry ∷ []) turned more,
      λ gate first input history was.
          let asked = rw c.in-Ask.is at
          (c.in_ok-ask.ensures.served gate first input (history ++ made) (served gate first input history was)) in
          rw (p.1, p.2, ← append_assoc) (sent gate first input (history ++ made) asked),
    )

pub returns-in-Need-clause-served : goal.returns-in-Need-clause-served
returns-in-Need-clause-served g c =
    let (made, turned, served) = c.lines.invariant.served in (
      made,
      turned,
      λ gate first input history was. rw c.in-Need.is at
          (c.in_ok-ask.ensures.served gate first input (history ++ made) (served gate first input history was)),
    )

pub returns-in-Over-clause-served : goal.returns-in-Over-clause-served
returns-in-Over-clause-served g c =
    let (made, turned, served) = c.lines.invariant.served in (
      made,
      turned,
      λ gate first input history was. rw c.in-Over.is at
          (c.in_ok-ask.ensures.served gate first input (history ++ made) (served gate first input history was)),
    )

pub lines-init : goal.lines-init
lines-init g c = record {
  asked = c.requires;
  counted = refl;
  served = ([], turned_nothing _, λ gate first input history was. rw append-nil was);
}

pub lines-preserved : goal.lines-preserved
lines-preserved g c =
    let (made, turned, served) = c.lines.invariant.served in
    let (entry, more, sent) = c.in_ok-answer_ask-in-Ask.ensures.served in
    record {
      asked = c.in_ok-answer_ask-in-Ask.ensures.asked;
      counted = c.answer_ask.ensures.counted ∙ c.hear.ensures.counted ∙ c.lines.invariant.counted;
      served = (
        made ++ entry ∷ [],
        turned_both _ _ _ made (entry ∷ []) turned more,
        λ gate first input history was.
            let asked = rw c.in-Ask.is at
            (c.in_ok-ask.ensures.served gate first input (history ++ made) (served gate first input history was)) in
            rw (← append_assoc) (sent gate first input (history ++ made) asked),
      );
    }
