use Rattle.std.proofs.Common.{◌∙◌, sym}
use Rattle.fk_filter.proofs.Bytes.{first_and_behind, no_byte, other_byte, past_byte}
use Rattle.fk_filter.proofs.stretch.pass_byte.Goals as goal

pub returns-in-empty-clause-is : goal.returns-in-empty-clause-is
returns-in-empty-clause-is c = no_byte _ _ c.args.left.text.now c.requires.one c.in-empty.len_below

pub returns-in-len1-up-clause-is : goal.returns-in-len1-up-clause-is
returns-in-len1-up-clause-is c =
    past_byte _ _ _ _ _ c.requires.one (first_and_behind c.args.left.text.now c.in-len1-up.len_at_least)
    (sym c.takes.ensures ∙ c.if-takes.true)

pub returns-in-len1-up-2-clause-is : goal.returns-in-len1-up-2-clause-is
returns-in-len1-up-2-clause-is c =
    other_byte _ _ _ _ _ c.requires.one (first_and_behind c.args.left.text.now c.in-len1-up.len_at_least)
    (sym c.takes.ensures ∙ c.if-takes.false)
