use Rattle.fk_json.proofs.string.quoted.Goals as goal

pub returns-in-Some-clause-none : goal.returns-in-Some-clause-none
returns-in-Some-clause-none c e value =
    rw (c.in-Some.ensures.cases.0) (c.behind_quote.ensures.none e value)
