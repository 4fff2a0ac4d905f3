-- Two lists of pieces on one list of bytes: they are the same, or one of them goes on where the other ends.
use Rattle.std.proofs.Common.{◌≡◌, ◌≢◌, ◌⊎◌, inl, inr, refl, sym, ap, subst, ◌∙◌, arith, ℕ, suc, ◌+◌, List, [], ◌∷◌, ◌++◌, length, take, drop, append_assoc}
use Rattle.std.specs.Prelude.{All, slice_index}
use Rattle.std.specs.Int.{w64, to_be_bytes}
use Rattle.std.proofs.lemmas.List.Elements.{All-head, All-tail}
use Rattle.fk_journal.specs.Pieces.{open_gate, numbered, opened, spelled, HasLength, HavePieces}
use Rattle.fk_moves.specs.Spelling.{word_bytes}
use Rattle.fk_lives.proofs.Headers.{split, same_word}

-- of two pieces with one number, on one list of bytes
one_piece : (number : ℕ) (moves others rest behind : List ℕ) → HasLength moves → HasLength others
    → opened number moves ++ rest ≡ opened number others ++ behind → (moves ≡ others) × (rest ≡ behind)
unfolding numbered word_bytes
one_piece number moves others rest behind short short_too is =
    let count : to_be_bytes w64 (length moves) ≡ to_be_bytes w64 (length others) =
    ap (λ (xs : List ℕ). take 8 (drop 9 xs)) is in
    let body : moves ++ rest ≡ others ++ behind = ap (λ (xs : List ℕ). drop 17 xs) is in
    split moves rest others behind (same_word (length moves) (length others) short short_too count) body

-- the first list goes on where the second ends, behind which the bytes are these
pub record GoesOn (base : ℕ) (pieces others : List (List ℕ)) (rest behind : List ℕ) : Type 0 where
  pub piece : List ℕ
  pub more : List (List ℕ)
  pub is : pieces ≡ others ++ piece ∷ more
  pub begins : behind ≡ opened (base + length others + 1) piece ++ spelled (base + length others + 1) more ++ rest

-- they are the same, or one goes on
abbrev pub AreCompared : ℕ → List (List ℕ) → List (List ℕ) → List ℕ → List ℕ → Type 0
AreCompared base pieces others rest behind =
    ((others ≡ pieces) × (rest ≡ behind))
    ⊎ GoesOn base pieces others rest behind ⊎ GoesOn base others pieces behind rest

goes_on_more : (base : ℕ) (first second : List ℕ) (pieces others : List (List ℕ)) (rest behind : List ℕ)
    → first ≡ second → GoesOn (base + 1) pieces others rest behind
    → GoesOn base (first ∷ pieces) (second ∷ others) rest behind
goes_on_more base first second pieces others rest behind same on =
    let number : base + 1 + length others + 1 ≡ base + suc (length others) + 1 = omega arith in
    record {
      piece = on.piece;
      more = on.more;
      is = ap (λ (p : List ℕ). p ∷ pieces) same ∙ ap (λ (ps : List (List ℕ)). second ∷ ps) on.is;
      begins = subst (λ (n : ℕ). behind ≡ opened n on.piece ++ spelled n on.more ++ rest) number on.begins;
    }

compared_more : (base : ℕ) (first second : List ℕ) (pieces others : List (List ℕ)) (rest behind : List ℕ)
    → first ≡ second → AreCompared (base + 1) pieces others rest behind
    → AreCompared base (first ∷ pieces) (second ∷ others) rest behind
compared_more base first second pieces others rest behind same (inl both) =
    inl (ap (λ (p : List ℕ). p ∷ others) (sym same) ∙ ap (λ (ps : List (List ℕ)). first ∷ ps) both.0, both.1)
compared_more base first second pieces others rest behind same (inr (inl on)) =
    inr (inl (goes_on_more base first second pieces others rest behind same on))
compared_more base first second pieces others rest behind same (inr (inr on)) =
    inr (inr (goes_on_more base second first others pieces behind rest (sym same) on))

begins_here : (base : ℕ) (first : List ℕ) (pieces : List (List ℕ)) (rest behind : List ℕ)
    → spelled base (first ∷ pieces) ++ rest ≡ behind → GoesOn base (first ∷ pieces) [] rest behind
unfolding spelled
begins_here base first pieces rest behind is =
    let number : base + 1 ≡ base + 0 + 1 = omega arith in
    record {
      piece = first;
      more = pieces;
      is = refl;
      begins = sym is ∙ ap (λ (n : ℕ). opened n first ++ spelled n pieces ++ rest) number;
    }

pub compared : (base : ℕ) (pieces others : List (List ℕ)) (rest behind : List ℕ) → All HasLength pieces
    → All HasLength others → spelled base pieces ++ rest ≡ spelled base others ++ behind
    → AreCompared base pieces others rest behind
unfolding spelled
compared base [] [] rest behind all every is = inl (refl, is)
compared base (first ∷ pieces) [] rest behind all every is = inr (inl (begins_here base first pieces rest behind is))
compared base [] (second ∷ others) rest behind all every is =
    inr (inr (begins_here base second others behind rest (sym is)))
compared base (first ∷ pieces) (second ∷ others) rest behind all every is =
    let apart : opened (base + 1) first ++ (spelled (base + 1) pieces ++ rest)
    ≡ opened (base + 1) second ++ (spelled (base + 1) others ++ behind) =
    sym (append_assoc (opened (base + 1) first) (spelled (base + 1) pieces) rest) ∙ is
    ∙ append_assoc (opened (base + 1) second) (spelled (base + 1) others) behind in
    let one = one_piece (base + 1) first second (spelled (base + 1) pieces ++ rest)
    (spelled (base + 1) others ++ behind) (All-head HasLength first pieces all)
    (All-head HasLength second others every) apart in
    compared_more base first second pieces others rest behind one.0
    (compared (base + 1) pieces others rest behind (All-tail HasLength first pieces all)
    (All-tail HasLength second others every) one.1)

-- where a gate isn't open, no list goes on
pub none_goes_on : (base gate : ℕ) (pieces others : List (List ℕ)) (rest behind : List ℕ) → gate ≢ open_gate
    → ¬ GoesOn base pieces others rest (gate ∷ behind)
none_goes_on base gate pieces others rest behind closed on = closed (ap (λ (xs : List ℕ). slice_index xs 0) on.begins)

-- so a list of pieces is one
pub one_list_of_pieces : (base : ℕ) (pieces others : List (List ℕ)) (bytes : List ℕ) → HavePieces base pieces bytes
    → HavePieces base others bytes → others ≡ pieces
one_list_of_pieces base pieces others bytes one other =
    let p = one.whole in
    let q = other.whole in
    elim (compared base pieces others (p.0 ∷ p.1) (q.0 ∷ q.1) one.lengths other.lengths (sym p.3 ∙ q.3)) [
      | inl same ↦ same.0
      | inr (inl on) ↦ absurd (none_goes_on base q.0 pieces others (p.0 ∷ p.1) q.1 q.2 on)
      | inr (inr on) ↦ absurd (none_goes_on base p.0 others pieces (q.0 ∷ q.1) p.1 p.2 on)
    ]
