-- What is still told after one call holds no other items than before.
use Rattle.std.proofs.Common.{ℕ, List, [], ◌∷◌, All}
use Rattle.std.proofs.lemmas.List.Elements.{All-drop}
use Rattle.fk_io.specs.Telling.{rest_of}

-- what holds of all items still holds of all
pub all_of_rest : (P : ℕ → Type 0) (items : List ℕ) → All P items → All P (rest_of items)
all_of_rest P [] all = all
all_of_rest P (last ∷ []) all = all
all_of_rest P (first ∷ second ∷ items) all = All-drop P 1 (first ∷ second ∷ items) all
