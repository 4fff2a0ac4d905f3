-- How the readers of numbers and names go on from one byte to the next.
use Rattle.std.proofs.Common.{◌≡◌, ℕ, zero, suc, ◌+◌, ◌<◌, ◌≤◌, Bool, true, false, List, [], ◌∷◌, ◌++◌, length, take, drop, get_or, replicate, Result, Ok, Err, refl, sym, ap, subst, ◌∙◌, arith}
use Rattle.std.specs.Prelude.{if◌then◌else◌, ◌==◌, nat_le, ◌&&◌, IsTrue, ◌↔◌}
use Rattle.std.specs.List.{AllPass}
use Rattle.std.proofs.lemmas.Bool.Decides.{nat_tests}
use Rattle.fk_moves.specs.declared.stop.Stop.{Stop}
use Rattle.fk_moves.specs.declared.stop.Stop.TheVariants as stops
use Rattle.fk_moves.specs.Fields.{Reading, StopsAs, ◌>>=◌, read_byte, byte_where, times, within}
use Rattle.fk_moves.proofs.Aligned.{found, found_is}
use Rattle.fk_moves.proofs.Repeated.{IsNamed, goes_on, is_done}

on_and_on : {U : Type 0} (result : Result U Stop) (read : Reading (List ℕ)) (b : ℕ)
    → StopsAs result read → StopsAs result (read >>= λ x. Ok (b ∷ x.0, x.1))
on_and_on (Ok u) (Ok x) b h = h
on_and_on (Ok u) (Err left) b h = h
on_and_on (Err stops.NoMemory) read b h = tt
on_and_on (Err (stops.At left)) (Ok x) b h = absurd cc
on_and_on (Err (stops.At left)) (Err other) b h = let same : other ≡ left = cc in ap (λ (n : ℕ). Err n) same

passed : (low b high : ℕ) → low ≤ b → b ≤ high → (nat_le low b && nat_le b high) ≡ true
passed low b high least most = grind (arith, nat_tests)

-- a first byte within its bounds, and those behind it
pub within_on : {U : Type 0} (result : Result U Stop) (bytes least most lo hi : List ℕ)
    → 1 ≤ length bytes → 1 ≤ length least → length least ≡ length most
    → get_or least 0 0 ≤ get_or bytes 0 0 → get_or bytes 0 0 ≤ get_or most 0 0
    → lo ≡ (if get_or bytes 0 0 == get_or least 0 0 then drop 1 least else replicate (length (drop 1 least)) 0)
    → hi ≡ (if get_or bytes 0 0 == get_or most 0 0 then drop 1 most else replicate (length (drop 1 most)) 255)
    → length lo ≡ length (drop 1 least)
    → StopsAs result ((within (length lo) lo hi).read (drop 1 bytes))
    → StopsAs result ((within (length least) least most).read bytes)
unfolding within
within_on result [] least most lo hi some _ _ _ _ _ _ _ _ = absurd (omega arith)
within_on result (b ∷ bytes) [] most lo hi some any _ _ _ _ _ _ _ = absurd (omega arith)
within_on result (b ∷ bytes) (l ∷ least) [] lo hi some any same _ _ _ _ _ _ = absurd (omega (arith, same))
within_on {U} result (b ∷ bytes) (l ∷ least) (h ∷ most) lo hi some any same low high lo_is hi_is len stops =
    let long : length most ≡ length least = omega (arith, same) in
    let hi_here : hi ≡ (if b == h then most else replicate (length least) 255) = hi_is ∙ ap (λ (n : ℕ). if b == h then most else replicate n 255) long in
    let here : StopsAs result ((within (length least) (if b == l then least else replicate (length least) 0) (if b == h then most else replicate (length least) 255)).read bytes)
    = subst (λ (x : List ℕ). StopsAs result ((within (length least) (if b == l then least else replicate (length least) 0) x).read bytes)) hi_here
    (subst (λ (x : List ℕ). StopsAs result ((within (length least) x hi).read bytes)) lo_is
    (subst (λ (n : ℕ). StopsAs result ((within n lo hi).read bytes)) len stops)) in
    rw (passed l b h low high) (on_and_on result _ b here)

-- ---- names

single : (test : ℕ → Bool) (b : ℕ) → test b ≡ true → AllPass test (b ∷ [])
single test b is zero d lt = is
single test b is (suc k) d lt = absurd (omega arith)

never : false ≡ true → ⊥
never is = absurd cc

tells_false : (test : ℕ → Bool) (b : ℕ) (t : Bool) → test b ≡ t → (AllPass test (b ∷ []) → false ≡ true) → false ≡ test b
tells_false test b true is all = absurd (never (all (single test b is)))
tells_false test b false is all = sym is

pub tells : (test : ℕ → Bool) (r : Bool) (b : ℕ) → (IsTrue r ↔ AllPass test (b ∷ [])) → r ≡ test b
tells test true b same = sym (same.0 refl 0 0 (omega arith))
tells test false b same = tells_false test b (test b) refl same.1

pub failed_byte : (test : ℕ → Bool) (bytes : List ℕ) → 1 ≤ length bytes → test (get_or bytes 0 0) ≡ false
    → read_byte test bytes ≡ Err (length bytes)
failed_byte test [] some fails = absurd (omega arith)
failed_byte test (b ∷ bytes) some fails = rw fails refl

byte_here : (t : Bool) (x b n : ℕ) (rest after : List ℕ) → (if t then found x rest else Err n) ≡ found b after
    → (x ≡ b) × (rest ≡ after)
byte_here true x b n rest after is = let same = found_is (x, rest) (b, after) is in
    (ap (λ (y : ℕ × List ℕ). y.0) same, ap (λ (y : ℕ × List ℕ). y.1) same)
byte_here false x b n rest after is = absurd cc

byte_is : (test : ℕ → Bool) (rest : List ℕ) (b : ℕ) (after : List ℕ) → read_byte test rest ≡ Ok (b, after) → rest ≡ b ∷ after
byte_is test [] b after is = absurd cc
byte_is test (x ∷ rest) b after is = let same = byte_here (test x) x b (length (x ∷ rest)) rest after is in
    ap (λ (y : ℕ). y ∷ rest) same.0 ∙ ap (λ (y : List ℕ). b ∷ y) same.1

drop_next : (bytes : List ℕ) (i b : ℕ) (after : List ℕ) → drop i bytes ≡ b ∷ after
    → (suc i ≤ length bytes) × (drop (suc i) bytes ≡ after) × (take (suc i) bytes ≡ take i bytes ++ b ∷ [])
drop_next [] zero b after is = absurd cc
drop_next [] (suc i) b after is = absurd cc
drop_next (x ∷ bytes) zero b after is = let one : x ≡ b = cc in let others : bytes ≡ after = cc in
    (omega arith, others, ap (λ (y : ℕ). y ∷ []) one)
drop_next (x ∷ bytes) (suc i) b after is = let next = drop_next bytes i b after is in
    (omega (arith, next.0), next.1, ap (λ (y : List ℕ). x ∷ y) next.2)

-- one more byte of a name
pub named_more : (test : ℕ → Bool) (bytes : List ℕ) (count i : ℕ) (rest : List ℕ) (b : ℕ) (after : List ℕ)
    → i < count → IsNamed (byte_where test) bytes count i rest → read_byte test rest ≡ Ok (b, after)
    → IsNamed (byte_where test) bytes count (i + 1) after
named_more test bytes count i rest b after lt named read =
    let next = drop_next bytes i b after (sym named.left ∙ byte_is test rest b after read) in
    let more : i + 1 ≡ suc i = omega arith in
    record {
      within = omega (arith, next.0);
      left = sym next.1 ∙ ap (λ (n : ℕ). drop n bytes) (sym more);
      read = rw (ap (λ (n : ℕ). take n bytes) more ∙ next.2) (goes_on (byte_where test) (take i bytes) count i rest b after ((times (byte_where test) count).read bytes) lt read named.read);
    }

pub named_done : (test : ℕ → Bool) (bytes : List ℕ) (count i : ℕ) (rest : List ℕ) → i ≤ count → count ≤ i
    → IsNamed (byte_where test) bytes count i rest
    → (times (byte_where test) count).read bytes ≡ Ok (take count bytes, drop count bytes)
named_done test bytes count i rest le ge named =
    let same : i ≡ count = omega arith in
    is_done (byte_where test) (take i bytes) count i rest ((times (byte_where test) count).read bytes) ge named.read
    ∙ ap (λ (x : List ℕ). Ok (take i bytes, x)) named.left ∙ ap (λ (n : ℕ). Ok (take n bytes, drop n bytes)) same
