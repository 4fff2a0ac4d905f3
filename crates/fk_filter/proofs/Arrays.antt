-- The elements of an array, as serde_json holds it.
use Rattle.std.proofs.Common.{◌≡◌, List, [], ◌∷◌, map, refl, ap}
use Rattle.serde_json.specs.View.{items_view, view}
use Rattle.serde_json.specs.declared.value.Value.{Value}
use Rattle.fk_model.specs.Payloads.{elements}

-- they are what its values stand for
pub elements-items_view : (values : List Value) → elements (items_view values) ≡ map view values
elements-items_view [] = refl
elements-items_view (value ∷ values) = ap (λ others. view value ∷ others) (elements-items_view values)
