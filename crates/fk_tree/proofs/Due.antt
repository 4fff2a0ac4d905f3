-- The pairs up to a moment, by the pair between two sides.
use Rattle.std.proofs.Common.{◌≡◌, ℕ, ◌+◌, ◌<◌, ◌≤◌, Bool, true, false, cond, not, List, [], ◌∷◌, ◌++◌, length, length-append, ap, ◌∙◌, arith}
use Rattle.std.specs.Prelude.{nat_lt}
use Rattle.std.proofs.lemmas.Bool.Decides.{nat_tests}
use Rattle.std.proofs.lemmas.List.Elements.{filter-append}
use Rattle.fk_tree.specs.Order.{up_to}
use Rattle.fk_tree.specs.Shape.{Shape, IsOver}
use Rattle.fk_tree.proofs.Kept.{kept_first}
use Rattle.fk_tree.proofs.Around.{up_to_left}

abbrev is_due : ℕ → ℕ × ℕ → Bool
is_due moment pair = not (nat_lt moment pair.0)

due : (moment : ℕ) (pair : ℕ × ℕ) → pair.0 ≤ moment → is_due moment pair ≡ true
due moment pair reached = grind (arith, nat_tests, reached)

-- where the pair between is later, the left side has them all
pub none_right : (side left right : Shape) (pair : ℕ × ℕ) (moment : ℕ) → IsOver side left pair right → moment < pair.0
    → up_to moment side.pairs ≡ up_to moment left.pairs
none_right side left right pair moment over less =
    ap (λ (pairs : List (ℕ × ℕ)). up_to moment pairs) over.pairs
    ∙ up_to_left moment left.pairs pair right.pairs over.sides.rising less

-- where it isn't, it stands between those of the sides
pub some_right : (side left right : Shape) (pair : ℕ × ℕ) (moment : ℕ) → IsOver side left pair right → pair.0 ≤ moment
    → up_to moment side.pairs ≡ up_to moment left.pairs ++ pair ∷ up_to moment right.pairs
some_right side left right pair moment over reached =
    ap (λ (pairs : List (ℕ × ℕ)). up_to moment pairs) over.pairs
    ∙ filter-append (is_due moment) left.pairs (pair ∷ right.pairs)
    ∙ ap (λ (back : List (ℕ × ℕ)). up_to moment left.pairs ++ back)
    (kept_first (is_due moment) pair right.pairs (due moment pair reached))

shorter_if : (pair : ℕ × ℕ) (kept all : List (ℕ × ℕ)) (keep : Bool) → length kept ≤ length all
    → length (cond keep (pair ∷ kept) kept) ≤ length (pair ∷ all)
shorter_if pair kept all true less = omega (arith, less)
shorter_if pair kept all false less = omega (arith, less)

pub no_longer : (moment : ℕ) (pairs : List (ℕ × ℕ)) → length (up_to moment pairs) ≤ length pairs
no_longer moment [] = omega arith
no_longer moment (pair ∷ pairs) = shorter_if pair (up_to moment pairs) pairs (is_due moment pair) (no_longer moment pairs)

-- so many are counted with the one between
pub counted : (side left right : Shape) (pair : ℕ × ℕ) (moment : ℕ) → IsOver side left pair right → pair.0 ≤ moment
    → length (up_to moment left.pairs) + 1 + length (up_to moment right.pairs) ≡ length (up_to moment side.pairs)
counted side left right pair moment over reached =
    rw (some_right side left right pair moment over reached)
    (omega (arith, length-append (up_to moment left.pairs) (pair ∷ up_to moment right.pairs)))
