use Rattle.std.proofs.lemmas.Result.{on_ok_weaker}
use Rattle.fk_server.proofs.Valid.{valid_words}
use Rattle.fk_server.proofs.words.read_words.Goals as goal

pub returns-in-len1-up-clause-valid : goal.returns-in-len1-up-clause-valid
returns-in-len1-up-clause-valid c =
    on_ok_weaker c.read_options.result
    (valid_words c.args.words.now _ c.in-len1-up.len_at_least (rw c.eq.ensures at c.if-eq.true))
    c.read_options.ensures.valid
