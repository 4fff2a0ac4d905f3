-- The elements of an array that was found, as serde_json holds it.
use Rattle.std.proofs.Common.{◌≡◌, List, [], map, Some, Option, sym, subst}
use Rattle.std.specs.Option.{option_map_or}
use Rattle.serde_json.specs.Data.{Items}
use Rattle.serde_json.specs.View.{items_view, view}
use Rattle.serde_json.specs.declared.value.Value.{Value}
use Rattle.fk_model.specs.Payloads.{elements}
use Rattle.fk_filter.proofs.Arrays.{elements-items_view}

-- an array that was found has the elements that these values stand for
pub elements_found : (values : List Value) (found : Option Items) → Some (items_view values) ≡ found
    → map view values ≡ option_map_or elements found []
elements_found values found is =
    subst (λ array. map view values ≡ option_map_or elements array []) is (sym (elements-items_view values))
