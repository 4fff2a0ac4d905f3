-- A row comes in at a spot, leaves it or is changed there: the rows before it and behind it stay.
use Rattle.std.proofs.Common.{◌≡◌, ℕ, zero, suc, ◌<◌, List, [], ◌∷◌, ◌++◌, length, take, drop, set, Some, None, slice_get, refl, sym, ap, append_assoc, ◌∙◌}
use Rattle.std.specs.List.{insert, remove}
use Rattle.fk_rows.specs.declared.spot.Spot.{Spot}
use Rattle.fk_rows.specs.Chunks.{Filed, rows_of, chunk_at}
use Rattle.fk_rows.specs.Spots.{before, behind, from}
use Rattle.fk_rows.proofs.Chunking.{Chunks, split_at, rows_set}

abbrev Rows : Type 0
Rows = List Filed

regroup : (a b c d : Rows) → a ++ ((b ++ c) ++ d) ≡ (a ++ b) ++ (c ++ d)
regroup a b c d = ap (λ rows. a ++ rows) (append_assoc b c d) ∙ sym (append_assoc a b (c ++ d))

pub entered : (chunks : Chunks) (spot : Spot) (x : Filed) → spot.chunk < length chunks
    → rows_of (set chunks spot.chunk (insert (chunk_at chunks spot.chunk) spot.at x)) ≡ before chunks spot ++ x ∷ from chunks spot
entered chunks spot x within = rows_set chunks spot.chunk (insert (chunk_at chunks spot.chunk) spot.at x) within
    ∙ regroup (rows_of (take spot.chunk chunks)) (take spot.at (chunk_at chunks spot.chunk)) (x ∷ drop spot.at (chunk_at chunks spot.chunk)) (rows_of (drop (suc spot.chunk) chunks))

pub left : (chunks : Chunks) (spot : Spot) → spot.chunk < length chunks
    → rows_of (set chunks spot.chunk (remove (chunk_at chunks spot.chunk) spot.at)) ≡ before chunks spot ++ behind chunks spot
left chunks spot within = rows_set chunks spot.chunk (remove (chunk_at chunks spot.chunk) spot.at) within
    ∙ regroup (rows_of (take spot.chunk chunks)) (take spot.at (chunk_at chunks spot.chunk)) (drop (suc spot.at) (chunk_at chunks spot.chunk)) (rows_of (drop (suc spot.chunk) chunks))

set_parts : (rows : Rows) (at : ℕ) (x y : Filed) → slice_get rows at ≡ Some x → set rows at y ≡ take at rows ++ y ∷ drop (suc at) rows
set_parts [] zero x y is =
    let none : None ≡ Some x = is in
    absurd (cc)
set_parts [] (suc at) x y is =
    let none : None ≡ Some x = is in
    absurd (cc)
set_parts (z ∷ rows) zero x y is = refl
set_parts (z ∷ rows) (suc at) x y is = ap (λ all. z ∷ all) (set_parts rows at x y is)

pub parts_at : (rows : Rows) (at : ℕ) (x : Filed) → slice_get rows at ≡ Some x → rows ≡ take at rows ++ x ∷ drop (suc at) rows
parts_at [] zero x is =
    let none : None ≡ Some x = is in
    absurd (cc)
parts_at [] (suc at) x is =
    let none : None ≡ Some x = is in
    absurd (cc)
parts_at (z ∷ rows) zero x is =
    let got : Some z ≡ Some x = is in
    let same : z ≡ x = cc in
    ap (λ (y : Filed). y ∷ rows) same
parts_at (z ∷ rows) (suc at) x is = ap (λ all. z ∷ all) (parts_at rows at x is)

pub changed : (chunks : Chunks) (spot : Spot) (x y : Filed) → spot.chunk < length chunks → slice_get (chunk_at chunks spot.chunk) spot.at ≡ Some x
    → rows_of (set chunks spot.chunk (set (chunk_at chunks spot.chunk) spot.at y)) ≡ before chunks spot ++ y ∷ behind chunks spot
changed chunks spot x y within is = rows_set chunks spot.chunk (set (chunk_at chunks spot.chunk) spot.at y) within
    ∙ ap (λ chunk. rows_of (take spot.chunk chunks) ++ (chunk ++ rows_of (drop (suc spot.chunk) chunks))) (set_parts (chunk_at chunks spot.chunk) spot.at x y is)
    ∙ regroup (rows_of (take spot.chunk chunks)) (take spot.at (chunk_at chunks spot.chunk)) (y ∷ drop (suc spot.at) (chunk_at chunks spot.chunk)) (rows_of (drop (suc spot.chunk) chunks))

-- the row that stands at a spot, between those before it and those behind it
pub stands : (chunks : Chunks) (spot : Spot) (x : Filed) → slice_get (chunk_at chunks spot.chunk) spot.at ≡ Some x → rows_of chunks ≡ before chunks spot ++ x ∷ behind chunks spot
stands chunks spot x is = split_at chunks spot.chunk
    ∙ ap (λ chunk. rows_of (take spot.chunk chunks) ++ (chunk ++ rows_of (drop (suc spot.chunk) chunks))) (parts_at (chunk_at chunks spot.chunk) spot.at x is)
    ∙ regroup (rows_of (take spot.chunk chunks)) (take spot.at (chunk_at chunks spot.chunk)) (x ∷ drop (suc spot.at) (chunk_at chunks spot.chunk)) (rows_of (drop (suc spot.chunk) chunks))

parts_from : (rows : Rows) (at : ℕ) → rows ≡ take at rows ++ drop at rows
parts_from [] zero = refl
parts_from [] (suc at) = refl
parts_from (x ∷ rows) zero = refl
parts_from (x ∷ rows) (suc at) = ap (λ all. x ∷ all) (parts_from rows at)

pub gap_parts : (chunks : Chunks) (spot : Spot) → rows_of chunks ≡ before chunks spot ++ from chunks spot
gap_parts chunks spot = split_at chunks spot.chunk
    ∙ ap (λ chunk. rows_of (take spot.chunk chunks) ++ (chunk ++ rows_of (drop (suc spot.chunk) chunks))) (parts_from (chunk_at chunks spot.chunk) spot.at)
    ∙ regroup (rows_of (take spot.chunk chunks)) (take spot.at (chunk_at chunks spot.chunk)) (drop spot.at (chunk_at chunks spot.chunk)) (rows_of (drop (suc spot.chunk) chunks))
