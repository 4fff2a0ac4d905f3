-- Moves that are made one behind the other: those before a place were made, and the others are left.
use Rattle.std.proofs.Common.{◌≡◌, ◌∙◌, sym, ap, refl, ℕ, zero, suc, add-one, ◌+◌, ◌<◌, List, [], ◌∷◌, ◌++◌, take, drop, length, append-nil, length-set, arith}
use Rattle.std.specs.Prelude.{None, Some, slice_get, slice_set, unwrap_or, is_some}
use Rattle.std.proofs.lemmas.Bool.{false≢true}
use Rattle.std.proofs.lemmas.List.{drop-set-lt}
use Rattle.fk_model.specs.declared.move_.Move.{Move}
use Rattle.fk_json.specs.Roomy.{Room}
use Rattle.fk_model.specs.Changes.{after_move, after_moves, Fits, FitInTurn}
use Rattle.fk_model.proofs.Leading.{after_both}
use Rattle.fk_core.specs.Held.{Held}
use Rattle.fk_core.specs.Reserved.{waits_in, is_leased_under, stands_in, Reserved}
use Rattle.fk_core.specs.Makes.{Makes}
use Rattle.fk_core.proofs.PutCounts.{adds_more}
use Rattle.fk_core.proofs.RoomLeft.{count_front}

-- ---- a list from a place on

left_some : {X : Type 0} (xs : List X) (at : ℕ) (x : X)
    → slice_get xs at ≡ Some x → drop at xs ≡ x ∷ drop (suc at) xs
left_some [] at x e = absurd (false≢true (ap is_some e))
left_some (first ∷ xs) zero x e = ap (λ one. one ∷ xs) (ap (λ got. unwrap_or got first) e)
left_some (first ∷ xs) (suc at) x e = left_some xs at x e

made_more : {X : Type 0} (xs : List X) (at : ℕ) (x : X)
    → slice_get xs at ≡ Some x → take (suc at) xs ≡ take at xs ++ x ∷ []
made_more [] at x e = absurd (false≢true (ap is_some e))
made_more (first ∷ xs) zero x e = ap (λ one. one ∷ []) (ap (λ got. unwrap_or got first) e)
made_more (first ∷ xs) (suc at) x e = ap (λ others. first ∷ others) (made_more xs at x e)

-- where less is left of two lists alike, the same is there
same_there : {X : Type 0} (xs ys : List X) (at : ℕ) → drop at xs ≡ drop at ys
    → slice_get xs at ≡ slice_get ys at
same_there xs ys at same = from_left xs at ∙ ap (λ left. slice_get left 0) same ∙ sym (from_left ys at)
  where
    from_left : {X : Type 0} (xs : List X) (at : ℕ) → slice_get xs at ≡ slice_get (drop at xs) 0
    from_left [] zero = refl
    from_left [] (suc at) = refl
    from_left (x ∷ xs) zero = refl
    from_left (x ∷ xs) (suc at) = from_left xs at

-- where one is put in the place of another, what is left behind it stays
left_behind : {X : Type 0} (xs ys : List X) (at : ℕ) (x : X) → drop at xs ≡ drop at ys
    → drop (at + 1) (slice_set xs at x) ≡ drop (at + 1) ys
left_behind xs ys at x same =
    drop-set-lt (at + 1) xs at x (omega arith) ∙ one_less xs at ∙ ap (drop 1) same ∙ sym (one_less ys at)
  where
    one_less : {X : Type 0} (xs : List X) (at : ℕ) → drop (at + 1) xs ≡ drop 1 (drop at xs)
    one_less [] zero = refl
    one_less [] (suc at) = rw add-one refl
    one_less (x ∷ xs) zero = refl
    one_less (x ∷ xs) (suc at) = rw add-one (rw add-one at (one_less xs at))

pub some_there : {X : Type 0} (xs : List X) (at : ℕ) → at < length xs → slice_get xs at ≡ None → ⊥
some_there [] at within none = absurd (omega arith)
some_there (x ∷ xs) zero within none = absurd (cc)
some_there (x ∷ xs) (suc at) within none = some_there xs at (omega arith) none

-- ---- the moves before a place

-- of a list of moves, those before a place were made: the others fit, there is room for them, and for yet
-- others where there was, and the list has the others still
pub record HasMade (moves left : Room Move) (at : ℕ) (before after : Held) : Type 0 where
  pub kept : after.kept ≡ after_moves before.kept (take at moves.items)
  pub fit : FitInTurn after.kept (drop at moves.items)
  pub room : (others : List Move) → Reserved before (moves.items ++ others)
      → Reserved after (drop at moves.items ++ others)
  pub others : drop at left.items ≡ drop at moves.items
  pub count : length left.items ≡ length moves.items
  pub spare : left.spare ≡ moves.spare

next_left : (moves left : Room Move) (at : ℕ) (before between : Held) (move : Move)
    → HasMade moves left at before between → Some move ≡ slice_get left.items at
    → drop at moves.items ≡ move ∷ drop (suc at) moves.items
next_left moves left at before between move made there =
    left_some moves.items at move (sym (there ∙ same_there left.items moves.items at made.others))

-- the next one fits
pub next_fits : (moves left : Room Move) (at : ℕ) (before between : Held) (move : Move)
    → HasMade moves left at before between → Some move ≡ slice_get left.items at
    → Fits between.kept move
unfolding FitInTurn
next_fits moves left at before between move made there =
    let fit = rw (next_left moves left at before between move made there) at made.fit in fit.0

first_room : (held : Held) (move : Move) (moves : List Move) → Reserved held (move ∷ moves)
    → Reserved held (move ∷ [])
first_room held move moves reserved = record {
  rows = omega (arith, reserved.rows, adds_more move moves, adds_more move []);
  queues = λ name. omega (
    arith,
    reserved.queues name,
    count_front (waits_in name) held.kept.rows (move ∷ []) moves,
  );
  leases = λ jid. omega (
    arith,
    reserved.leases jid,
    count_front (is_leased_under jid) held.kept.rows (move ∷ []) moves,
  );
  sets = λ target. omega (
    arith,
    reserved.sets target,
    count_front (stands_in target) held.kept.rows (move ∷ []) moves,
  );
}

-- and there is room for it
pub next_room : (moves left : Room Move) (at : ℕ) (before between : Held) (move : Move)
    → HasMade moves left at before between → Some move ≡ slice_get left.items at
    → Reserved before moves.items → Reserved between (move ∷ [])
next_room moves left at before between move made there reserved =
    let all = made.room [] (rw append-nil reserved) in
    first_room between move (drop (suc at) moves.items ++ [])
    (rw (next_left moves left at before between move made there) at all)

-- then one more is made
pub one_made : (moves left now : Room Move) (at : ℕ) (before between after : Held) (move other : Move)
    → HasMade moves left at before between → Some move ≡ slice_get left.items at
    → now.items ≡ slice_set left.items at other → now.spare ≡ left.spare → Makes move between after
    → HasMade moves now (at + 1) before after
unfolding FitInTurn
one_made moves left now at before between after move other made there items spare makes =
    let next = next_left moves left at before between move made there in
    let here = sym (there ∙ same_there left.items moves.items at made.others) in
    let fit = rw next at made.fit in
    record {
      kept = rw add-one
          (makes.kept ∙ ap (λ kept. after_move kept move) made.kept
          ∙ sym (after_both before.kept (take at moves.items) (move ∷ []))
          ∙ ap (after_moves before.kept) (sym (made_more moves.items at move here)));
      fit = rw (makes.kept, add-one) fit.1;
      room = λ others reserved. rw add-one
          (makes.room (drop (suc at) moves.items ++ others) (rw next at (made.room others reserved)));
      others = rw items (left_behind left.items moves.items at other made.others);
      count = rw (items, length-set) made.count;
      spare = spare ∙ made.spare;
    }
