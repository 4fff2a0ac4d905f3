use Rattle.std.proofs.Common.{sym, ◌∙◌}
use Rattle.fk_frame.proofs.Lengths.{too_long, padded, not_text}
use Rattle.fk_frame.proofs.bulk_length.bulk_length.Goals as goal
use Rattle.fk_frame.proofs.bulk_length.bulk_length.Goals.{then-digits-gt-MOST_DIGITS-via-then-digits-gt-MOST_DIGITS, then-digits-gt-MOST_DIGITS-via-else-digits-gt-MOST_DIGITS+then-is_padded}

pub returns-then-digits-gt-MOST_DIGITS : goal.returns-then-digits-gt-MOST_DIGITS
returns-then-digits-gt-MOST_DIGITS c h =
    elim c.then-digits-gt-MOST_DIGITS.branch [
      | then-digits-gt-MOST_DIGITS-via-then-digits-gt-MOST_DIGITS w ↦ too_long _ w.if-digits-gt-MOST_DIGITS.true h
      | then-digits-gt-MOST_DIGITS-via-else-digits-gt-MOST_DIGITS+then-is_padded w ↦ padded _ (sym w.is_padded.ensures ∙ w.if-is_padded.true) h
    ]

pub returns-in-Err : goal.returns-in-Err
returns-in-Err c h = not_text _ c.in-Err.ensures.cases.0 h
