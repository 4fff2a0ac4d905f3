use Rattle.std.proofs.Common.{◌∙◌, Some, ap}
use Rattle.std.specs.Prelude.{option_map}
use Rattle.serde_json.specs.View.{view}
use Rattle.fk_model.specs.Filters.{texts_of}
use Rattle.fk_filter.proofs.Strings.{rises, texts_there}
use Rattle.fk_filter.proofs.reading.texts_of.Goals as goal

pub returns-in_err-few_strings-in-Array-clause-is :
    goal.returns-in_err-few_strings-in-Array-clause-is
returns-in_err-few_strings-in-Array-clause-is c =
    rises _ _ _ _ c.from_residual.ensures.1 c.in_err-few_strings-in-Array.ensures.is
    (λ none. ap (λ value. texts_of (view value)) c.in-Array.is
    ∙ texts_there c.in-Array.elements c.deref.result.now c.deref.ensures.value ∙ ap (option_map Some) none)

pub returns-in_ok-few_strings-in-Array-clause-is :
    goal.returns-in_ok-few_strings-in-Array-clause-is
returns-in_ok-few_strings-in-Array-clause-is c =
    ap (λ value. texts_of (view value)) c.in-Array.is
    ∙ texts_there c.in-Array.elements c.deref.result.now c.deref.ensures.value
    ∙ ap (option_map Some) c.in_ok-few_strings-in-Array.ensures.is
