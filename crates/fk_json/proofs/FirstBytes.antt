-- The first bytes of characters of more than one byte.
use Rattle.std.proofs.Common.{◌≡◌, ◌≢◌, ◌⊎◌, ℕ, ◌<◌, ◌≤◌, ◌==◌, nat_lt, Bool, true, false, List, if◌then◌else◌, Option, Some, None, inl, inr, refl, ap, subst, arith}
use Rattle.std.proofs.lemmas.Bool.{eqb-true, ltb-true, ltb-false}
use Rattle.std.proofs.lemmas.Bool.Decides.{nat_tests}
use Rattle.std.proofs.lemmas.Option.{none-some}
use Rattle.fk_json.specs.Tokens.{character_first}
use Rattle.fk_json.specs.TokenRests.{ByteThen}
use Rattle.fk_json.specs.declared.string_mode.StringMode.{StringMode}
use Rattle.fk_json.specs.declared.string_mode.StringMode.TheVariants.{Inside, Escape, Four, Three, Two, One, LastByte, TwoBytes, ThreeBytes, NotOverlongOfThree, NoSurrogate, NotOverlongOfFour, NotPastTheLast, Closed}

-- the bytes of a character that are to come, and then such a rest
abbrev pub CharacterLeft : StringMode → (List ℕ → Type 0) → List ℕ → Type 0
CharacterLeft LastByte IsRest text = ByteThen 0x80 0xC0 IsRest text
CharacterLeft TwoBytes IsRest text = ByteThen 0x80 0xC0 (ByteThen 0x80 0xC0 IsRest) text
CharacterLeft ThreeBytes IsRest text =
    ByteThen 0x80 0xC0 (ByteThen 0x80 0xC0 (ByteThen 0x80 0xC0 IsRest)) text
CharacterLeft NotOverlongOfThree IsRest text = ByteThen 0xA0 0xC0 (ByteThen 0x80 0xC0 IsRest) text
CharacterLeft NoSurrogate IsRest text = ByteThen 0x80 0xA0 (ByteThen 0x80 0xC0 IsRest) text
CharacterLeft NotOverlongOfFour IsRest text =
    ByteThen 0x90 0xC0 (ByteThen 0x80 0xC0 (ByteThen 0x80 0xC0 IsRest)) text
CharacterLeft NotPastTheLast IsRest text =
    ByteThen 0x80 0x90 (ByteThen 0x80 0xC0 (ByteThen 0x80 0xC0 IsRest)) text
CharacterLeft _ IsRest text = ⊥

-- ---- first bytes

-- the first bytes that lead to a mode
abbrev pub BeginsWith : StringMode → ℕ → Type 0
BeginsWith LastByte b = (0xC2 ≤ b) × (b < 0xE0)
BeginsWith TwoBytes b = (0xE0 < b) × (b < 0xF0) × (b ≢ 0xED)
BeginsWith ThreeBytes b = (0xF0 < b) × (b < 0xF4)
BeginsWith NotOverlongOfThree b = b ≡ 0xE0
BeginsWith NoSurrogate b = b ≡ 0xED
BeginsWith NotOverlongOfFour b = b ≡ 0xF0
BeginsWith NotPastTheLast b = b ≡ 0xF4
BeginsWith _ b = ⊥

pub first_is : (mode : StringMode) (b : ℕ) → BeginsWith mode b → character_first b ≡ Some mode
first_is LastByte b h = grind (arith, nat_tests, h.0, h.1)
first_is TwoBytes b h = grind (arith, nat_tests, h.0, h.1, h.2)
first_is ThreeBytes b h = grind (arith, nat_tests, h.0, h.1)
first_is NotOverlongOfThree b h = rw h refl
first_is NoSurrogate b h = rw h refl
first_is NotOverlongOfFour b h = rw h refl
first_is NotPastTheLast b h = rw h refl
first_is Inside b h = absurd h
first_is Escape b h = absurd h
first_is Four b h = absurd h
first_is Three b h = absurd h
first_is Two b h = absurd h
first_is One b h = absurd h
first_is Closed b h = absurd h

pub some_same : {x y : StringMode} → Some x ≡ Some y → x ≡ y
some_same {x} e = ap (λ o. elim o as (λ _. StringMode) [ None ↦ x | Some z ↦ z ]) e

-- the first branch is taken, or the others are
pub if_some : (t : Bool) (x y : StringMode) (others : Option StringMode)
    → (if t then Some x else others) ≡ Some y
    → ((t ≡ true) × (x ≡ y)) ⊎ ((t ≡ false) × (others ≡ Some y))
if_some true x y others e = inl (refl, some_same e)
if_some false x y others e = inr (refl, e)

pub if_none : (t : Bool) (y : StringMode) (others : Option StringMode)
    → (if t then None else others) ≡ Some y → (t ≡ false) × (others ≡ Some y)
if_none true y others e = absurd (none-some y e)
if_none false y others e = (refl, e)

first_of_four : (b : ℕ) (mode : StringMode) → 0xF0 ≤ b
    → (if b == 0xF0 then Some NotOverlongOfFour
    else if nat_lt b 0xF4 then Some ThreeBytes
    else if b == 0xF4 then Some NotPastTheLast
    else None) ≡ Some mode → BeginsWith mode b
first_of_four b mode l e = elim (if_some (b == 0xF0) NotOverlongOfFour mode _ e) as (λ _. BeginsWith mode b) [
  | inl p ↦ subst (λ m. BeginsWith m b) p.1 (eqb-true b 0xF0 p.0)
  | inr p ↦ elim (if_some (nat_lt b 0xF4) ThreeBytes mode _ p.1) as (λ _. BeginsWith mode b) [
    | inl q ↦ subst (λ m. BeginsWith m b) q.1 (grind (arith, nat_tests, l, p.0, q.0), ltb-true b 0xF4 q.0)
    | inr q ↦ elim (if_some (b == 0xF4) NotPastTheLast mode None q.1) as (λ _. BeginsWith mode b) [
      | inl r ↦ subst (λ m. BeginsWith m b) r.1 (eqb-true b 0xF4 r.0)
      | inr r ↦ absurd (none-some mode r.1)
    ]
  ]
]

pub first_begins : (b : ℕ) (mode : StringMode) → character_first b ≡ Some mode → BeginsWith mode b
first_begins b mode e0 =
    let (low, e) = if_none (nat_lt b 0xC2) mode _ e0 in
    elim (if_some (nat_lt b 0xE0) LastByte mode _ e) as (λ _. BeginsWith mode b) [
      | inl p ↦ subst (λ m. BeginsWith m b) p.1 (ltb-false b 0xC2 low, ltb-true b 0xE0 p.0)
      | inr p ↦ elim (if_some (b == 0xE0) NotOverlongOfThree mode _ p.1) as (λ _. BeginsWith mode b) [
        | inl q ↦ subst (λ m. BeginsWith m b) q.1 (eqb-true b 0xE0 q.0)
        | inr q ↦ elim (if_some (b == 0xED) NoSurrogate mode _ q.1) as (λ _. BeginsWith mode b) [
          | inl r ↦ subst (λ m. BeginsWith m b) r.1 (eqb-true b 0xED r.0)
          | inr r ↦ elim (if_some (nat_lt b 0xF0) TwoBytes mode _ r.1) as (λ _. BeginsWith mode b) [
            | inl s ↦
                let above : 0xE0 < b = grind (arith, nat_tests, p.0, q.0) in
                let other : b ≢ 0xED = grind (arith, nat_tests, r.0) in
                subst (λ m. BeginsWith m b) s.1 (above, ltb-true b 0xF0 s.0, other)
            | inr s ↦ first_of_four b mode (ltb-false b 0xF0 s.0) s.1
          ]
        ]
      ]
    ]
