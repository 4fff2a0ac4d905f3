use Rattle.fk_json.proofs.Itself.{reading_behind, reading_starts}
use Rattle.fk_json.proofs.Parts.{goes_on, no_value}
use Rattle.fk_json.proofs.string.decoded_parts.Goals as goal

pub parts-init : goal.parts-init
parts-init c =
    reading_starts _ _ _ _ c.in_ok-value.ensures c.in_ok-rest.ensures.gains c.in_ok-rest.ensures.rest

pub parts-preserved : goal.parts-preserved
parts-preserved c =
    reading_behind _ _ _ _ _ _ c.in_ok-rest-2.ensures
    (goes_on _ _ _ _ _ _ _ _ c.in-Some.ensures c.in_ok-high.ensures c.parts.invariant)

pub returns-then-not-is_quote-clause-none : goal.returns-then-not-is_quote-clause-none
returns-then-not-is_quote-clause-none c _ w =
    no_value _ _ _ _ w _ c.is_quote.ensures c.if-not-is_quote.true c.in_default.ensures c.parts.invariant
