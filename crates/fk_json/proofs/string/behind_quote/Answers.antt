use Rattle.fk_json.proofs.Parts.{finds_quoted, no_quoted, quote_first}
use Rattle.fk_json.proofs.string.behind_quote.Goals as goal

pub returns-then-byte-eq34-clause-some : goal.returns-then-byte-eq34-clause-some
returns-then-byte-eq34-clause-some c = finds_quoted _ _ _ c.if-byte-eq34.true c.decoded.ensures.some

pub returns-then-byte-eq34-clause-none : goal.returns-then-byte-eq34-clause-none
returns-then-byte-eq34-clause-none c e value = no_quoted _ _ value (c.decoded.ensures.none e)

pub returns-else-byte-eq34-clause-none : goal.returns-else-byte-eq34-clause-none
returns-else-byte-eq34-clause-none c e value = quote_first _ _ value c.if-byte-eq34.false
