-- Reading items one after the other, as a loop does.
use Rattle.std.proofs.Common.{◌≡◌, ℕ, suc, ◌-◌, ◌+◌, ◌≤◌, ◌<◌, List, [], ◌∷◌, ◌++◌, length, take, drop, Ok, Err, refl, sym, ap, ◌∙◌, append_assoc, arith}
use Rattle.std.proofs.lemmas.List.{append-nil}
use Rattle.fk_moves.specs.declared.stop.Stop.{Stop}
use Rattle.fk_moves.specs.declared.stop.Stop.TheVariants as stops
use Rattle.fk_moves.specs.Fields.{Field, Reading, Fails, ◌>>=◌, times}

-- what was read before, and what is still read
abbrev pub with_front : {A : Type 0} → List A → Reading (List A) → Reading (List A)
with_front front read = read >>= λ x. Ok (front ++ x.0, x.1)

regroup : {A : Type 0} (front : List A) (n : A) (read : Reading (List A))
    → with_front front (read >>= λ x. Ok (n ∷ x.0, x.1)) ≡ with_front (front ++ n ∷ []) read
regroup front n (Ok x) = ap (λ (items : List _). Ok (items, x.1)) (sym (append_assoc front (n ∷ []) x.0))
regroup front n (Err left) = refl

pub goes_on : {A : Type 0} (field : Field A) (front : List A) (count i : ℕ) (bytes : List ℕ) (n : A) (after : List ℕ)
    (total : Reading (List A)) → i < count → field.read bytes ≡ Ok (n, after)
    → with_front front ((times field (count - i)).read bytes) ≡ total
    → with_front (front ++ n ∷ []) ((times field (count - (i + 1))).read after) ≡ total
unfolding times
goes_on field front count i bytes n after total lt found so_far =
    let k : count - i ≡ suc (count - (i + 1)) = omega arith in
    let one : with_front front ((times field (count - i)).read bytes) ≡ with_front (front ++ n ∷ []) ((times field (count - (i + 1))).read after)
    = rw (k, found) (regroup front n ((times field (count - (i + 1))).read after)) in
    sym one ∙ so_far

pub ends : {A : Type 0} (stop : Stop) (field : Field A) (front : List A) (count i : ℕ) (bytes : List ℕ)
    (total : Reading (List A)) → i < count → Fails stop (field.read bytes)
    → with_front front ((times field (count - i)).read bytes) ≡ total → Fails stop total
unfolding times
ends stops.NoMemory field front count i bytes total lt stopped so_far = tt
ends (stops.At left) field front count i bytes total lt stopped so_far =
    let k : count - i ≡ suc (count - (i + 1)) = omega arith in
    let one : with_front front ((times field (count - i)).read bytes) ≡ Err left = rw (k, stopped) refl in
    sym so_far ∙ one

pub is_done : {A : Type 0} (field : Field A) (front : List A) (count i : ℕ) (bytes : List ℕ)
    (total : Reading (List A)) → count ≤ i
    → with_front front ((times field (count - i)).read bytes) ≡ total → total ≡ Ok (front, bytes)
unfolding times
is_done field front count i bytes total le so_far =
    let k : count - i ≡ 0 = omega arith in
    let one : with_front front ((times field (count - i)).read bytes) ≡ Ok (front, bytes)
    = rw k (ap (λ (items : List _). Ok (items, bytes)) (append-nil front)) in
    sym so_far ∙ one

-- what is read of the whole is what is read behind nothing
nothing_before : {A : Type 0} (read : Reading (List A)) → with_front [] read ≡ read
nothing_before (Ok x) = refl
nothing_before (Err left) = refl

pub begins : {A : Type 0} (field : Field A) (count k : ℕ) (bytes : List ℕ) → k ≡ count
    → with_front [] ((times field k).read bytes) ≡ (times field count).read bytes
begins field count k bytes same = nothing_before ((times field k).read bytes) ∙ ap (λ (n : ℕ). (times field n).read bytes) same

-- so many bytes of a field were read, and so many others are
pub record IsNamed (field : Field ℕ) (bytes : List ℕ) (count i : ℕ) (rest : List ℕ) : Type 0 where
  pub within : i ≤ length bytes
  pub left : rest ≡ drop i bytes
  pub read : with_front (take i bytes) ((times field (count - i)).read rest) ≡ (times field count).read bytes
