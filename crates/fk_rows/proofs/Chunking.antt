-- The rows of chunks, where one chunk is another one, more, or less.
use Rattle.std.proofs.Common.{◌≡◌, ℕ, zero, suc, ◌<◌, ◌≤◌, List, [], ◌∷◌, ◌++◌, ◌+◌, length, take, drop, set, refl, sym, ap, arith, append_assoc, ◌∙◌}
use Rattle.std.specs.List.{insert, remove, AllByRecursion}
use Rattle.std.proofs.lemmas.List.{take-append-drop}
use Rattle.fk_rows.specs.Chunks.{Filed, rows_of, chunk_at, excess, excess_of}

abbrev pub Chunks : Type 0
Chunks = List (List Filed)

pub split_at : (chunks : Chunks) (at : ℕ) → rows_of chunks ≡ rows_of (take at chunks) ++ (chunk_at chunks at ++ rows_of (drop (suc at) chunks))
split_at [] zero = refl
split_at [] (suc at) = refl
split_at (chunk ∷ chunks) zero = refl
split_at (chunk ∷ chunks) (suc at) = ap (λ rows. chunk ++ rows) (split_at chunks at) ∙ sym (append_assoc chunk (rows_of (take at chunks)) (chunk_at chunks at ++ rows_of (drop (suc at) chunks)))

pub split_before : (chunks : Chunks) (at : ℕ) → rows_of chunks ≡ rows_of (take at chunks) ++ rows_of (drop at chunks)
split_before [] zero = refl
split_before [] (suc at) = refl
split_before (chunk ∷ chunks) zero = refl
split_before (chunk ∷ chunks) (suc at) = ap (λ rows. chunk ++ rows) (split_before chunks at) ∙ sym (append_assoc chunk (rows_of (take at chunks)) (rows_of (drop at chunks)))

pub rows_set : (chunks : Chunks) (at : ℕ) (chunk : List Filed) → at < length chunks → rows_of (set chunks at chunk) ≡ rows_of (take at chunks) ++ (chunk ++ rows_of (drop (suc at) chunks))
rows_set [] at chunk within = absurd (omega arith)
rows_set (other ∷ chunks) zero chunk within = refl
rows_set (other ∷ chunks) (suc at) chunk within = ap (λ rows. other ++ rows) (rows_set chunks at chunk (omega arith)) ∙ sym (append_assoc other (rows_of (take at chunks)) (chunk ++ rows_of (drop (suc at) chunks)))

-- by how many rows they are more than half full
pub excess_set : (chunks : Chunks) (at : ℕ) (chunk : List Filed) → at < length chunks → excess_of (set chunks at chunk) + excess (chunk_at chunks at) ≡ excess_of chunks + excess chunk
excess_set [] at chunk within = absurd (omega arith)
excess_set (other ∷ chunks) zero chunk within =
    let computed : excess chunk + excess_of chunks + excess other ≡ excess other + excess_of chunks + excess chunk = omega arith in
    computed
excess_set (other ∷ chunks) (suc at) chunk within =
    let others : excess_of (set chunks at chunk) + excess (chunk_at chunks at) ≡ excess_of chunks + excess chunk = excess_set chunks at chunk (omega arith) in
    let computed : excess other + excess_of (set chunks at chunk) + excess (chunk_at chunks at) ≡ excess other + excess_of chunks + excess chunk = omega (arith, others) in
    computed

pub excess_at : (chunks : Chunks) (at : ℕ) → at < length chunks → excess (chunk_at chunks at) ≤ excess_of chunks
excess_at [] at within = absurd (omega arith)
excess_at (other ∷ chunks) zero within =
    let computed : excess other ≤ excess other + excess_of chunks = omega arith in
    computed
excess_at (other ∷ chunks) (suc at) within =
    let others : excess (chunk_at chunks at) ≤ excess_of chunks = excess_at chunks at (omega arith) in
    let computed : excess (chunk_at chunks at) ≤ excess other + excess_of chunks = omega (arith, others) in
    computed

excess_in : (some others : Chunks) (chunk : List Filed) → excess_of (some ++ chunk ∷ others) ≡ excess chunk + excess_of (some ++ others)
excess_in [] others chunk =
    let computed : excess chunk + excess_of others ≡ excess chunk + excess_of others = refl in
    computed
excess_in (one ∷ some) others chunk =
    let rest : excess_of (some ++ chunk ∷ others) ≡ excess chunk + excess_of (some ++ others) = excess_in some others chunk in
    let computed : excess one + excess_of (some ++ chunk ∷ others) ≡ excess chunk + (excess one + excess_of (some ++ others)) = omega (arith, rest) in
    computed

pub excess_insert : (chunks : Chunks) (at : ℕ) (chunk : List Filed) → excess_of (insert chunks at chunk) ≡ excess chunk + excess_of chunks
excess_insert chunks at chunk = excess_in (take at chunks) (drop at chunks) chunk ∙ ap (λ all. excess chunk + excess_of all) (take-append-drop at chunks)

pub excess_remove : (chunks : Chunks) (at : ℕ) → excess_of (remove chunks at) ≤ excess_of chunks
excess_remove [] zero = omega arith
excess_remove [] (suc at) = omega arith
excess_remove (chunk ∷ chunks) zero =
    let computed : excess_of chunks ≤ excess chunk + excess_of chunks = omega arith in
    computed
excess_remove (chunk ∷ chunks) (suc at) =
    let others : excess_of (remove chunks at) ≤ excess_of chunks = excess_remove chunks at in
    let computed : excess chunk + excess_of (remove chunks at) ≤ excess chunk + excess_of chunks = omega (arith, others) in
    computed

-- what holds of each chunk
pub all_set : (P : List Filed → Type 0) (chunks : Chunks) (at : ℕ) (chunk : List Filed) → AllByRecursion P chunks → P chunk → AllByRecursion P (set chunks at chunk)
all_set P [] at chunk every one = tt
all_set P (other ∷ chunks) zero chunk every one = (one, every.1)
all_set P (other ∷ chunks) (suc at) chunk every one = (every.0, all_set P chunks at chunk every.1 one)

pub all_insert : (P : List Filed → Type 0) (chunks : Chunks) (at : ℕ) (chunk : List Filed) → AllByRecursion P chunks → P chunk → AllByRecursion P (insert chunks at chunk)
all_insert P [] zero chunk every one = (one, tt)
all_insert P [] (suc at) chunk every one = (one, tt)
all_insert P (other ∷ chunks) zero chunk every one = (one, every)
all_insert P (other ∷ chunks) (suc at) chunk every one = (every.0, all_insert P chunks at chunk every.1 one)

pub all_remove : (P : List Filed → Type 0) (chunks : Chunks) (at : ℕ) → AllByRecursion P chunks → AllByRecursion P (remove chunks at)
all_remove P [] zero every = tt
all_remove P [] (suc at) every = tt
all_remove P (other ∷ chunks) zero every = every.1
all_remove P (other ∷ chunks) (suc at) every = (every.0, all_remove P chunks at every.1)

pub all_at : (P : List Filed → Type 0) (chunks : Chunks) (at : ℕ) → AllByRecursion P chunks → at < length chunks → P (chunk_at chunks at)
all_at P [] at every within = absurd (omega arith)
all_at P (other ∷ chunks) zero every within = every.0
all_at P (other ∷ chunks) (suc at) every within = all_at P chunks at every.1 (omega arith)

-- a chunk that has no row is none
pub rows_remove : (chunks : Chunks) (at : ℕ) → chunk_at chunks at ≡ [] → rows_of (remove chunks at) ≡ rows_of chunks
rows_remove [] zero bare = refl
rows_remove [] (suc at) bare = refl
rows_remove (chunk ∷ chunks) zero bare = rw bare refl
rows_remove (chunk ∷ chunks) (suc at) bare = rw (rows_remove chunks at bare) refl

-- the chunk that was put to a place stands there
pub at_set : (chunks : Chunks) (at : ℕ) (chunk : List Filed) → at < length chunks → chunk_at (set chunks at chunk) at ≡ chunk
at_set [] at chunk within = absurd (omega arith)
at_set (other ∷ chunks) zero chunk within = refl
at_set (other ∷ chunks) (suc at) chunk within = at_set chunks at chunk (omega arith)

-- how many chunks there are
pub length_insert : {X : Type 0} (xs : List X) (at : ℕ) (x : X) → length (insert xs at x) ≡ suc (length xs)
length_insert [] zero x = refl
length_insert [] (suc at) x = refl
length_insert (y ∷ xs) zero x = refl
length_insert (y ∷ xs) (suc at) x = ap suc (length_insert xs at x)

pub length_remove : {X : Type 0} (xs : List X) (at : ℕ) → at < length xs → suc (length (remove xs at)) ≡ length xs
length_remove [] at within = absurd (omega arith)
length_remove (x ∷ xs) zero within = refl
length_remove (x ∷ xs) (suc at) within = ap suc (length_remove xs at (omega arith))

-- what holds of all chunks but one holds without it
pub all_others : (P : List Filed → Type 0) (chunks : Chunks) (at : ℕ) (chunk : List Filed) → AllByRecursion P chunks → AllByRecursion P (remove (set chunks at chunk) at)
all_others P [] zero chunk every = tt
all_others P [] (suc at) chunk every = tt
all_others P (other ∷ chunks) zero chunk every = every.1
all_others P (other ∷ chunks) (suc at) chunk every = (every.0, all_others P chunks at chunk every.1)
