-- Strings with commas between them.
use Rattle.std.proofs.Common.{◌≡◌, ℕ, List, [], ◌∷◌, ◌++◌, codes, length, map, refl, ap, sym, arith}
use Rattle.std.proofs.lemmas.List.{append-nil}
use Rattle.std.specs.List.{flat_map, join_with_byte}
use Rattle.std.specs.Str.{byte}
use Rattle.fk_json.specs.String.{spelling}
use Rattle.fk_job.specs.RowText.{further, further_strings}

-- joined texts are the first, and each other one behind the byte
pub join-cons : {X : Type 0} (c : ℕ) (f : X → List ℕ) (x : X) (xs : List X)
    → join_with_byte c (map f (x ∷ xs)) ≡ f x ++ flat_map (λ y. c ∷ f y) xs
join-cons c f x [] = sym (append-nil (f x))
join-cons c f x (y ∷ ys) = ap (λ more. f x ++ (c ∷ more)) (join-cons c f y ys)

-- no string, no member
pub further_strings-none : (name : List ℕ) (texts : List (List ℕ)) → length texts ≡ 0 → further_strings name texts ≡ []
unfolding further_strings
further_strings-none name [] none = refl
further_strings-none name (text ∷ texts) none = absurd (omega arith)

-- the member with the strings, with the first one and the others apart
pub further_strings-cons : (name first : List ℕ) (others : List (List ℕ))
    → further_strings name (first ∷ others)
    ≡ further name (codes "[" ++ (spelling first ++ flat_map (λ text. byte "," ∷ spelling text) others) ++ codes "]")
unfolding further_strings
further_strings-cons name first others =
    ap (λ items. further name (codes "[" ++ items ++ codes "]")) (join-cons (byte ",") spelling first others)
