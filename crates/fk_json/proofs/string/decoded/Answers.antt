use Rattle.fk_json.proofs.Itself.{plain_stands}
use Rattle.fk_json.proofs.string.decoded.Goals as goal

pub returns-then-is_quote-clause-some : goal.returns-then-is_quote-clause-some
returns-then-is_quote-clause-some c =
    plain_stands _ _ _ _ _ c.itself_front.ensures.run c.itself_front.ensures.rest
    c.in_ok-copy.ensures c.is_quote.ensures c.if-is_quote.true
