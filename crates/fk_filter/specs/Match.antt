-- What the parts of a pattern match, as a relation.
use Rattle.std.specs.Prelude.{◌≡◌, ℕ, List, [], ◌∷◌, ◌++◌}
use Rattle.fk_model.specs.Glob.{Part, run, one, itself}

-- the parts, one after the other, are the whole text: a run is any bytes of it, none among them
unfoldable pub Match : List Part → List ℕ → Type 0
Match [] text = text ≡ []
Match (run ∷ parts) text =
    (front : List ℕ) × (rest : List ℕ) × (text ≡ front ++ rest) × Match parts rest
Match (one ∷ parts) [] = ⊥
Match (one ∷ parts) (byte ∷ rest) = Match parts rest
Match (itself byte ∷ parts) [] = ⊥
Match (itself byte ∷ parts) (first ∷ rest) = (first ≡ byte) × Match parts rest

-- the parts match an end of the text
abbrev pub MatchesEnd : List Part → List ℕ → Type 0
MatchesEnd parts text = Match (run ∷ parts) text
