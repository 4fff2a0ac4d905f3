-- Two ways in which bytes begin.
use Rattle.std.proofs.Common.{◌≡◌, ℕ, suc, ◌≤◌, List, [], ◌∷◌, ◌++◌, length, Result, Ok, Err, refl, ap, arith, length-append, ◌⊎◌, inl, inr}
use Rattle.std.proofs.Math.ListN.{get_or-append}
use Rattle.fk_job.specs.Spellings.{AreBytes}
use Rattle.fk_moves.specs.Fields.{◌>>=◌}

-- of two fronts of one list the longer goes on from the shorter
pub aligned : (a b c d : List ℕ) → a ++ b ≡ c ++ d → length a ≤ length c
    → (e : List ℕ) × (c ≡ a ++ e) × (b ≡ e ++ d)
aligned [] b c d is short = (c, refl, is)
aligned (x ∷ a) b [] d is short = absurd (omega arith)
aligned (x ∷ a) b (y ∷ c) d is short =
    let others : a ++ b ≡ c ++ d = cc in
    let first : y ≡ x = cc in
    let more = aligned a b c d others (omega arith) in
    (more.0, cc, more.2)

-- what follows bytes are bytes
pub bytes_behind : (a b : List ℕ) → AreBytes (a ++ b) → AreBytes b
bytes_behind [] b all = all
bytes_behind (x ∷ a) b all = bytes_behind a b (λ k d lt. all (suc k) d (omega arith))

-- and what stands before them
pub bytes_before : (a b : List ℕ) → AreBytes (a ++ b) → AreBytes a
bytes_before a b all k d lt = let same = get_or-append a b d k lt in
    rw same at (all k d (omega (arith, length-append a b)))

-- reading on that found something
pub found_both : {A B : Type 0} (read : Result A ℕ) (next : A → Result B ℕ) (y : B)
    → (read >>= next) ≡ Ok y → (x : A) × (read ≡ Ok x) × (next x ≡ Ok y)
found_both (Ok x) next y is = (x, refl, is)
found_both (Err left) next y is = absurd cc

-- reading on that stopped: at once, or behind what was found
pub stopped_at : {A B : Type 0} (read : Result A ℕ) (next : A → Result B ℕ) (left : ℕ)
    → (read >>= next) ≡ Err left
    → (read ≡ Err left) ⊎ ((x : A) × (read ≡ Ok x) × (next x ≡ Err left))
stopped_at (Ok x) next left is = inr (x, refl, is)
stopped_at (Err other) next left is = let same : other ≡ left = cc in inl (ap (λ n. Err n) same)

-- two readings that found the same
abbrev pub found : {T : Type 0} → T → List ℕ → Result (T × List ℕ) ℕ
found value rest = Ok (value, rest)

abbrev read : {T : Type 0} → T × List ℕ → Result (T × List ℕ) ℕ
read found = Ok found

pub found_is : {T : Type 0} (x y : T × List ℕ) → read x ≡ read y → x ≡ y
found_is x y is = cc
