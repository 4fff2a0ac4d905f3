-- Brackets that are open inside of the outermost, as one bit each.
use Rattle.std.proofs.Common.{◌≡◌, ◌==◌, ℕ, zero, suc, ◌+◌, ◌*◌, ◌/◌, ◌%◌, ◌^◌, ◌<◌, Bool, true, false, if◌then◌else◌, List, [], ◌∷◌, length, Option, None, Some, refl, sym, subst, arith}
use Rattle.std.proofs.Math.Nat.{pow-suc, pow-zero}
use Rattle.std.proofs.lemmas.Bool.{eqb-true}
use Rattle.std.proofs.lemmas.Nat.{div-add-mod', div_below, mod_below}
use Rattle.fk_json.specs.declared.mode.Bracket.{Bracket}
use Rattle.fk_json.specs.declared.mode.Bracket.TheVariants.{Array, Object}

-- a bracket as a bit
abbrev pub bit_of : Bracket → ℕ
bit_of Array = 0
bit_of Object = 1

-- the bracket of the lowest bit
abbrev pub lowest : ℕ → Bracket
lowest bits = if bits % 2 == 1 then Object else Array

-- as many brackets as are open, the innermost in the lowest bit
abbrev pub brackets_of : ℕ → ℕ → List Bracket
brackets_of zero bits = []
brackets_of (suc depth) bits = lowest bits ∷ brackets_of depth (bits / 2)

-- the bits of brackets
abbrev pub bits_of : List Bracket → ℕ
bits_of [] = 0
bits_of (bracket ∷ outer) = bits_of outer * 2 + bit_of bracket

-- the brackets without the innermost, where there is one
abbrev pub popped : List Bracket → Option (List Bracket)
popped [] = None
popped (bracket ∷ outer) = Some outer

abbrev pub is_nil : List Bracket → Bool
is_nil [] = true
is_nil (bracket ∷ outer) = false

-- ---- the bits of brackets are those that they came from

bit_lowest-one : (n : ℕ) → n < 2 → (t : Bool) → (n == 1) ≡ t → bit_of (if t then Object else Array) ≡ n
bit_lowest-one n small true e = sym (eqb-true n 1 e)
bit_lowest-one n small false e = grind (arith, e, small)

bit_lowest : (bits : ℕ) → bit_of (lowest bits) ≡ bits % 2
bit_lowest bits = bit_lowest-one (bits % 2) (mod_below bits 2 (omega arith)) (bits % 2 == 1) refl

pub brackets_length : (depth bits : ℕ) → length (brackets_of depth bits) ≡ depth
brackets_length zero bits = refl
brackets_length (suc depth) bits = omega (arith, brackets_length depth (bits / 2))

half_below : (depth bits : ℕ) → bits < 2 ^ suc depth → bits / 2 < 2 ^ depth
half_below depth bits small = div_below bits 2 (2 ^ depth) (omega arith) (subst (λ n. bits < n) (pow-suc 2 depth) small)

pub bits_back : (depth bits : ℕ) → bits < 2 ^ depth → bits_of (brackets_of depth bits) ≡ bits
bits_back zero bits small = omega (arith, small, pow-zero 2)
bits_back (suc depth) bits small =
    rw (bits_back depth (bits / 2) (half_below depth bits small), bit_lowest bits) (div-add-mod' bits 2)
