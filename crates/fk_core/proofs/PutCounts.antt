-- How many rows the first of some moves put somewhere, counted move by move.
use Rattle.std.proofs.Common.{◌≡◌, refl, ℕ, zero, suc, ◌<◌, ◌≤◌, ◌+◌, List, [], ◌∷◌, Bool, true, false, take, add-one, arith}
use Rattle.std.specs.Prelude.{if◌then◌else◌, Some, count_by, slice_get}
use Rattle.std.specs.Option.{option_map_or}
use Rattle.std.proofs.lemmas.List.Sums.{sum_by-cons}
use Rattle.fk_job.specs.declared.job.Job.{Job}
use Rattle.fk_model.specs.declared.row.Row.{Row}
use Rattle.fk_model.specs.declared.place.Place.{Place}
use Rattle.fk_model.specs.declared.move_.Move.{Move}
use Rattle.fk_core.specs.Reserved.{is_add, known_behind, count_put}
use Rattle.fk_core.specs.Entrances.{put_at, count_one}

-- ---- rows put somewhere

-- one move more
pub count_next : (test : Job × Place → Bool) (moves : List Move) (at : ℕ) (rows : List (ℕ × Row))
    → count_put test rows (take (suc at) moves)
    ≡ count_one test (put_at rows moves at) + count_put test rows (take at moves)
unfolding count_put
count_next test [] zero rows = refl
count_next test [] (suc at) rows = refl
count_next test (move ∷ moves) zero rows = refl
count_next test (move ∷ moves) (suc at) rows =
    omega (arith, count_next test moves at (known_behind rows move))

-- the first of them put no more than all
pub count_up_to : (test : Job × Place → Bool) (moves : List Move) (at : ℕ) (rows : List (ℕ × Row))
    → count_put test rows (take at moves) ≤ count_put test rows moves
unfolding count_put
count_up_to test [] zero rows = omega arith
count_up_to test [] (suc at) rows = omega arith
count_up_to test (move ∷ moves) zero rows = omega arith
count_up_to test (move ∷ moves) (suc at) rows = omega (arith, count_up_to test moves at (known_behind rows move))

-- no moves put none
pub count_none : (test : Job × Place → Bool) (rows : List (ℕ × Row)) → count_put test rows [] ≡ 0
unfolding count_put
count_none test rows = refl

-- before the move that puts a row where a test says so, fewer are put there than by all
pub count_short : (test : Job × Place → Bool) (moves : List Move) (at : ℕ) (rows : List (ℕ × Row))
    (put : Job × Place) → put_at rows moves at ≡ Some put → test put ≡ true
    → count_put test rows (take at moves) < count_put test rows moves
count_short test moves at rows put is passes =
    let next = count_next test moves at rows in
    let most = count_up_to test moves (suc at) rows in
    let one : count_one test (put_at rows moves at) ≡ 1 = rw (is, passes) refl in
    omega arith

-- ---- new rows

-- one move before others
pub adds_more : (move : Move) (moves : List Move)
    → count_by is_add (move ∷ moves) ≡ (if is_add move then 1 else 0) + count_by is_add moves
adds_more move moves = sum_by-cons (λ x. if is_add x then 1 else 0) move moves

adds_next : (moves : List Move) (at : ℕ)
    → count_by is_add (take (suc at) moves)
    ≡ (if option_map_or is_add (slice_get moves at) false then 1 else 0) + count_by is_add (take at moves)
adds_next [] zero = refl
adds_next [] (suc at) = refl
adds_next (move ∷ moves) zero = adds_more move []
adds_next (move ∷ moves) (suc at) =
    omega (arith, adds_next moves at, adds_more move (take (suc at) moves), adds_more move (take at moves))

-- one move more
pub adds_on : (moves : List Move) (at : ℕ)
    → count_by is_add (take (at + 1) moves)
    ≡ (if option_map_or is_add (slice_get moves at) false then 1 else 0) + count_by is_add (take at moves)
adds_on moves at = rw add-one (adds_next moves at)

-- fewer moves have no more new rows
pub adds_rise : (moves : List Move) (at later : ℕ) → at ≤ later
    → count_by is_add (take at moves) ≤ count_by is_add (take later moves)
adds_rise [] zero zero less = omega arith
adds_rise [] zero (suc later) less = omega arith
adds_rise [] (suc at) zero less = omega arith
adds_rise [] (suc at) (suc later) less = omega arith
adds_rise (move ∷ moves) zero later less = omega arith
adds_rise (move ∷ moves) (suc at) zero less = absurd (omega arith)
adds_rise (move ∷ moves) (suc at) (suc later) less =
    rw (adds_more move (take at moves), adds_more move (take later moves))
    (more (if is_add move then 1 else 0) (count_by is_add (take at moves))
    (count_by is_add (take later moves)) (adds_rise moves at later (omega arith)))
  where
    more : (one fewer all : ℕ) → fewer ≤ all → one + fewer ≤ one + all
    more one fewer all less = omega arith
