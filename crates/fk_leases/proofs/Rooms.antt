-- The rooms of jids together, where the room of one of them changed.
use Rattle.std.proofs.Common.{◌≡◌, ◌≢◌, ◌⊎◌, inl, inr, ℕ, ◌+◌, ◌<◌, ◌≤◌, Bool, true, false, List, [], ◌∷◌, refl, sym, ap, subst, arith}
use Rattle.std.specs.Prelude.{bytes_eq, sum_by}
use Rattle.std.specs.List.{AllByRecursion, IsDistinct}
use Rattle.std.proofs.lemmas.List.Sums.{sum_by-cons, sum_by-le-sum_by}
use Rattle.std.proofs.lemmas.Map.Keys.{IsDistinct-head, IsDistinct-tail, IsDistinct-cons}
use Rattle.std.proofs.lemmas.Slice.Eq.{bytes_eq-Decides}
use Rattle.fk_lists.specs.Room.{Spares, spare_at}
use Rattle.fk_leases.specs.Ends.{HaveRoom}

abbrev OtherThan : List ℕ → List (List ℕ) → Type 0
OtherThan jid jids = AllByRecursion (λ other. bytes_eq jid other ≡ false) jids

none_at : (jids : List (List ℕ)) → sum_by (spare_at []) jids ≡ 0
unfolding spare_at
none_at [] = refl
none_at (jid ∷ jids) =
    let first = sum_by-cons (spare_at []) jid jids in omega (arith, first, none_at jids)

pub no_room : (spares : Spares) → spares ≡ [] → HaveRoom spares 0
no_room spares none jids once =
    let nothing = ap (λ (held : Spares). sum_by (spare_at held) jids) none in
    omega (arith, nothing, none_at jids)

pub no_less_room : (before after : Spares) (room : ℕ)
    → ((jid : List ℕ) → spare_at after jid ≤ spare_at before jid) → HaveRoom before room → HaveRoom after room
no_less_room before after room less have jids once =
    omega (arith, sum_by-le-sum_by (spare_at after) (spare_at before) jids less, have jids once)

pub same_room : (before after : Spares) (room : ℕ)
    → ((jid : List ℕ) → spare_at after jid ≡ spare_at before jid) → HaveRoom before room → HaveRoom after room
same_room before after room same =
    no_less_room before after room (λ jid. omega (arith, same jid))

module _ (jid : List ℕ) (before after : Spares)
    (others : (other : List ℕ) → other ≢ jid → spare_at after other ≡ spare_at before other) where
  other_than : (other : List ℕ) → bytes_eq jid other ≡ false → spare_at after other ≡ spare_at before other
  other_than other differs =
      others other (λ same. absurd (cc (differs, (bytes_eq-Decides jid other).1 (sym same))))

  others_stay : (jids : List (List ℕ)) → OtherThan jid jids → sum_by (spare_at after) jids ≡ sum_by (spare_at before) jids
  others_stay [] differ = refl
  others_stay (other ∷ jids) differ =
      let now = sum_by-cons (spare_at after) other jids in
      let then = sum_by-cons (spare_at before) other jids in
      omega (arith, now, then, other_than other differ.0, others_stay jids differ.1)

  -- the jid is one of these and makes the difference, or it isn't
  difference : (jids : List (List ℕ)) → IsDistinct bytes_eq jids
      → (sum_by (spare_at after) jids + spare_at before jid ≡ sum_by (spare_at before) jids + spare_at after jid)
      ⊎ OtherThan jid jids
  difference [] once = inr tt
  difference (other ∷ jids) once =
      by (bytes_eq jid other) refl (sum_by-cons (spare_at after) other jids) (sum_by-cons (spare_at before) other jids)
      (difference jids (IsDistinct-tail bytes_eq other jids once))
    where
      by : (here : Bool) → bytes_eq jid other ≡ here
          → sum_by (spare_at after) (other ∷ jids) ≡ spare_at after other + sum_by (spare_at after) jids
          → sum_by (spare_at before) (other ∷ jids) ≡ spare_at before other + sum_by (spare_at before) jids
          → (sum_by (spare_at after) jids + spare_at before jid ≡ sum_by (spare_at before) jids + spare_at after jid)
          ⊎ OtherThan jid jids
          → (sum_by (spare_at after) (other ∷ jids) + spare_at before jid
          ≡ sum_by (spare_at before) (other ∷ jids) + spare_at after jid)
          ⊎ OtherThan jid (other ∷ jids)
      by true same now then rest =
          let is : jid ≡ other = (bytes_eq-Decides jid other).0 same in
          let differ : OtherThan jid jids =
          subst (λ name. OtherThan name jids) (sym is) (IsDistinct-head bytes_eq other jids once) in
          let room_now = ap (spare_at after) is in
          let room_then = ap (spare_at before) is in
          inl (omega (arith, now, then, others_stay jids differ, room_now, room_then))
      by false differs now then (inl rest) = inl (omega (arith, now, then, other_than other differs, rest))
      by false differs now then (inr rest) = inr (differs, rest)

  -- one pair less may be put
  pub one_less_room : (was is : ℕ) → 0 < spare_at before jid → spare_at after jid + 1 ≡ spare_at before jid
      → is + 1 ≡ was → HaveRoom before was → HaveRoom after is
  one_less_room was is some less now have jids once = by (difference jids once)
    where
      by : (sum_by (spare_at after) jids + spare_at before jid ≡ sum_by (spare_at before) jids + spare_at after jid)
          ⊎ OtherThan jid jids → sum_by (spare_at after) jids ≤ is
      by (inl differ) = omega (arith, differ, less, now, have jids once)
      by (inr differ) =
          let whole = have (jid ∷ jids) (IsDistinct-cons bytes_eq jid jids differ once) in
          let first = sum_by-cons (spare_at before) jid jids in
          omega (arith, whole, first, others_stay jids differ, some, now)

  -- the room of a jid is no more than it was
  pub kept_room : (room : ℕ) → spare_at after jid ≤ spare_at before jid → HaveRoom before room → HaveRoom after room
  kept_room room less have jids once = by (difference jids once)
    where
      by : (sum_by (spare_at after) jids + spare_at before jid ≡ sum_by (spare_at before) jids + spare_at after jid)
          ⊎ OtherThan jid jids → sum_by (spare_at after) jids ≤ room
      by (inl differ) = omega (arith, differ, less, have jids once)
      by (inr differ) = omega (arith, others_stay jids differ, have jids once)

  -- the room of a jid has risen by no more than that of all
  pub more_room : (was is : ℕ) → spare_at after jid + was ≤ spare_at before jid + is → was ≤ is → HaveRoom before was
      → HaveRoom after is
  more_room was is more rising have jids once = by (difference jids once)
    where
      by : (sum_by (spare_at after) jids + spare_at before jid ≡ sum_by (spare_at before) jids + spare_at after jid)
          ⊎ OtherThan jid jids → sum_by (spare_at after) jids ≤ is
      by (inl differ) = omega (arith, differ, more, have jids once)
      by (inr differ) = omega (arith, others_stay jids differ, rising, have jids once)

-- the room of one jid is within that of all together
pub one_room : (spares : Spares) (room : ℕ) (jid : List ℕ) → HaveRoom spares room → spare_at spares jid ≤ room
unfolding IsDistinct
one_room spares room jid have =
    let first = sum_by-cons (spare_at spares) jid [] in omega (arith, first, have (jid ∷ []) (tt, tt))
