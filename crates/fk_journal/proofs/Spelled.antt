-- A list of pieces with one more.
use Rattle.std.proofs.Common.{◌≡◌, ℕ, suc, ◌+◌, arith, ap, sym, ◌∙◌, List, [], ◌∷◌, ◌++◌, length, append_assoc, append-nil}
use Rattle.fk_journal.specs.Pieces.{opened, spelled}

-- it stands behind the others, under the number that follows theirs
pub spelled-append : (base : ℕ) (pieces : List (List ℕ)) (moves : List ℕ) →
    spelled base (pieces ++ moves ∷ []) ≡ spelled base pieces ++ opened (base + length pieces + 1) moves
unfolding spelled
spelled-append base [] moves =
    let same : base + 1 ≡ base + 0 + 1 = omega arith in
    append-nil (opened (base + 1) moves) ∙ ap (λ n. opened n moves) same
spelled-append base (first ∷ pieces) moves =
    let same : base + 1 + length pieces + 1 ≡ base + suc (length pieces) + 1 = omega arith in
    ap (λ xs. opened (base + 1) first ++ xs) (spelled-append (base + 1) pieces moves)
    ∙ sym (append_assoc (opened (base + 1) first) (spelled (base + 1) pieces) (opened (base + 1 + length pieces + 1) moves))
    ∙ ap (λ n. opened (base + 1) first ++ spelled (base + 1) pieces ++ opened n moves) same
