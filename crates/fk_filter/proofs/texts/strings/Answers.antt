use Rattle.std.proofs.lemmas.List.Elements.{All-append, All-cons, All-nil}
use Rattle.std.proofs.Common.{[]}
use Rattle.fk_job.specs.Spellings.{IsText}
use Rattle.fk_filter.proofs.Strings.{no_string, reads_string, rises}
use Rattle.fk_filter.proofs.texts.strings.Goals as goal

pub returns-in_err-string-clause-is : goal.returns-in_err-string-clause-is
returns-in_err-string-clause-is c =
    rises _ _ _ _ c.from_residual.ensures.1 c.in_err-string.ensures.is
    (no_string _ _ _ c.loop-element-test.true c.element-item.is)

pub loop-element-preserved : goal.loop-element-preserved
loop-element-preserved c = rw c.in_ok-push.ensures.ok (
  reads_string _ _ _ _ _ c.loop-element-test.true c.element-item.is c.loop-element.invariant.0
      c.in_ok-string.ensures.is,
  All-append IsText _ _ c.loop-element.invariant.1
      (All-cons IsText _ [] c.in_ok-string.ensures.short (All-nil IsText)),
)
