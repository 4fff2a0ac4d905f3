-- What was put in turn, and what is left of a list of items to be put.
use Rattle.std.proofs.Common.{◌≡◌, ℕ, ◌+◌, ◌<◌, ◌≤◌, List, [], ◌∷◌, ◌++◌, length, take, get_or, ℤ, refl, ap, sym, subst, ◌∙◌, append_assoc, arith, length-append}
use Rattle.std.specs.List.{flat_map}
use Rattle.std.proofs.lemmas.Grind.{flat_map-append}
use Rattle.std.proofs.lemmas.List.{append-nil, take_more}
use Rattle.fk_json.specs.Roomy.{Room}
use Rattle.std.proofs.lemmas.List.Folds.{length-flat_map-take}
use Rattle.fk_moves.specs.Spelling.{word_bytes, signed_bytes, count_bytes}
use Rattle.fk_moves.specs.Writing.{Put}

-- how many bytes a number has
pub length_word : (n : ℕ) → length (word_bytes n) ≡ 8
unfolding word_bytes
length_word n = refl

pub length_signed : (n : ℤ) → length (signed_bytes n) ≡ 8
unfolding signed_bytes
length_signed n = refl

pub length_count : (n : ℕ) → length (count_bytes n) ≡ 4
unfolding count_bytes
length_count n = refl

-- one piece, and another behind it
pub put_then : {a b : List ℕ} {r s t : Room ℕ} → Put a r s → Put b s t → Put (a ++ b) r t
put_then {a} {b} {r} {s} {t} one other = record {
  items = other.items ∙ ap (λ (x : List ℕ). x ++ b) one.items ∙ append_assoc r.items a b;
  room = omega (arith, length-append a b, one.room, other.room);
}

-- the bytes of the items so far, and of one more
pub one_more : {X : Type 0} (spelled : X → List ℕ) (items : List X) (i : ℕ) (d : X) → i < length items
    → flat_map spelled (take (i + 1) items) ≡ flat_map spelled (take i items) ++ spelled (get_or items i d)
one_more spelled items i d lt =
    ap (λ (x : List _). flat_map spelled x) (take_more items i d lt) ∙ flat_map-append spelled (take i items) (get_or items i d ∷ [])
    ∙ ap (λ (x : List ℕ). flat_map spelled (take i items) ++ x) (append-nil (spelled (get_or items i d)))

-- there is room for the next item, where there is for all, and those before it were put
pub room_left : {X : Type 0} (spelled : X → List ℕ) (items : List X) (i : ℕ) (item : X) (a : List ℕ) (before after : Room ℕ)
    → i < length items → item ≡ get_or items i item → length (a ++ flat_map spelled items) ≤ before.spare
    → Put (a ++ flat_map spelled (take i items)) before after → length (spelled item) ≤ after.spare
room_left spelled items i item a before after lt is room put =
    omega (
      arith,
      length-flat_map-take spelled items i item lt,
      ap (λ x. length (spelled x)) is,
      put.room,
      room,
      length-append a (flat_map spelled items),
      length-append a (flat_map spelled (take i items)),
    )

-- and the next item behind them
pub put_more : {X : Type 0} (spelled : X → List ℕ) (items : List X) (i : ℕ) (item : X) (a : List ℕ) (before now after : Room ℕ)
    → i < length items → item ≡ get_or items i item
    → Put (a ++ flat_map spelled (take i items)) before now → Put (spelled item) now after
    → Put (a ++ flat_map spelled (take (i + 1) items)) before after
put_more spelled items i item a before now after lt is put next =
    let joined : (a ++ flat_map spelled (take i items)) ++ spelled item ≡ a ++ flat_map spelled (take (i + 1) items)
    = append_assoc a (flat_map spelled (take i items)) (spelled item)
    ∙ ap (λ (x : List ℕ). a ++ x) (ap (λ x. flat_map spelled (take i items) ++ spelled x) is ∙ sym (one_more spelled items i item lt)) in
    subst (λ (x : List ℕ). Put x before after) joined (put_then put next)

-- four pieces behind others
pub behind_all : (front a b c d : List ℕ) → front ++ (a ++ b ++ c ++ d) ≡ front ++ a ++ b ++ c ++ d
behind_all front a b c d = simp append_assoc refl
