-- A character has such bytes.
use Rattle.std.proofs.Common.{◌≡◌, ℕ, ◌+◌, ◌/◌, ◌%◌, ◌<◌, ◌≤◌, nat_lt, true, false, List, [], ◌∷◌, ◌++◌, length, inl, inr, refl, ap, subst, arith}
use Rattle.std.specs.Char.{IsScalar, encode_utf8}
use Rattle.std.specs.Prelude.{encode_utf8_all}
use Rattle.std.specs.Str.{IsUtf8}
use lib.Utf8.{scalars}
use Rattle.std.proofs.lemmas.Bool.{and_parts}
use Rattle.std.proofs.lemmas.Bool.Decides.{leb_tells, nat_tests}
use Rattle.fk_json.specs.TokenRests.{ByteThen}
use Rattle.fk_json.specs.declared.string_mode.StringMode.{StringMode}
use Rattle.fk_json.specs.declared.string_mode.StringMode.TheVariants.{LastByte, TwoBytes, ThreeBytes, NotOverlongOfThree, NoSurrogate, NotOverlongOfFour, NotPastTheLast}
use Rattle.fk_json.proofs.Parts.{head_of, tail_of}
use Rattle.fk_json.proofs.FirstBytes.{BeginsWith, CharacterLeft}

abbrev Found : ℕ → List ℕ → Type 0
Found b text = (mode : StringMode) × BeginsWith mode b × (CharacterLeft mode IsUtf8 text)

-- the bytes behind the second one, of the number of a character
one_more : (c : ℕ) (rest : List ℕ) → IsUtf8 rest
    → ByteThen 0x80 0xC0 IsUtf8 ((128 + c % 64) ∷ rest)
one_more c rest u = (omega arith, omega arith, u)

two_more : (c : ℕ) (rest : List ℕ) → IsUtf8 rest
    → ByteThen 0x80 0xC0 (ByteThen 0x80 0xC0 IsUtf8) ((128 + (c / 64) % 64) ∷ (128 + c % 64) ∷ rest)
two_more c rest u = (omega arith, omega arith, one_more c rest u)

found_two : (c : ℕ) (rest : List ℕ) (b : ℕ) (text : List ℕ) → 128 ≤ c → c < 2048 → IsUtf8 rest
    → encode_utf8 c ++ rest ≡ b ∷ text → Found b text
unfolding encode_utf8
found_two c rest b text l h u e0 =
    let t1 : nat_lt c 128 ≡ false = grind (arith, nat_tests) in
    let t2 : nat_lt c 2048 ≡ true = grind (arith, nat_tests) in
    let e : (192 + c / 64) ∷ (128 + c % 64) ∷ rest ≡ b ∷ text = rw (t1, t2) at e0 in
    let first = head_of e in (
      LastByte,
      (omega (arith, first), omega (arith, first)),
      subst (CharacterLeft LastByte IsUtf8) (tail_of e) (one_more c rest u),
    )

found_three : (c : ℕ) (rest : List ℕ) (b : ℕ) (text : List ℕ) → 2048 ≤ c → c < 65536 → IsScalar c
    → IsUtf8 rest → encode_utf8 c ++ rest ≡ b ∷ text → Found b text
unfolding encode_utf8
found_three c rest b text l h scalar u e0 =
    let t1 : nat_lt c 128 ≡ false = grind (arith, nat_tests) in
    let t2 : nat_lt c 2048 ≡ false = grind (arith, nat_tests) in
    let t3 : nat_lt c 65536 ≡ true = grind (arith, nat_tests) in
    let e : (224 + c / 4096) ∷ (128 + (c / 64) % 64) ∷ (128 + c % 64) ∷ rest ≡ b ∷ text
    = rw (t1, t2, t3) at e0 in
    let first = head_of e in
    let behind = tail_of e in
    let more = one_more c rest u in
    elim (leb_tells 4096 c) as (λ _. Found b text) [
      | inr p ↦ (
        NotOverlongOfThree,
        omega (arith, first, p.1),
        subst (CharacterLeft NotOverlongOfThree IsUtf8) behind (omega (arith, p.1), omega arith, more),
      )
      | inl p ↦ elim (leb_tells 0xD000 c) as (λ _. Found b text) [
        | inr q ↦ (
          TwoBytes,
          (omega (arith, first, p.1), omega (arith, first, q.1), λ x. absurd (omega (arith, first, q.1, x))),
          subst (CharacterLeft TwoBytes IsUtf8) behind (two_more c rest u),
        )
        | inl q ↦ elim (leb_tells 0xE000 c) as (λ _. Found b text) [
          | inl r ↦ (
            TwoBytes,
            (omega (arith, first, r.1), omega (arith, first), λ x. absurd (omega (arith, first, r.1, x))),
            subst (CharacterLeft TwoBytes IsUtf8) behind (two_more c rest u),
          )
          | inr r ↦
              let low : c < 0xD800 = grind (arith, nat_tests, scalar, r.1) in (
                NoSurrogate,
                omega (arith, first, q.1, low),
                subst (CharacterLeft NoSurrogate IsUtf8) behind (omega arith, omega (arith, q.1, low), more),
              )
        ]
      ]
    ]

found_four : (c : ℕ) (rest : List ℕ) (b : ℕ) (text : List ℕ) → 65536 ≤ c → IsScalar c
    → IsUtf8 rest → encode_utf8 c ++ rest ≡ b ∷ text → Found b text
unfolding encode_utf8
found_four c rest b text l scalar u e0 =
    let t1 : nat_lt c 128 ≡ false = grind (arith, nat_tests) in
    let t2 : nat_lt c 2048 ≡ false = grind (arith, nat_tests) in
    let t3 : nat_lt c 65536 ≡ false = grind (arith, nat_tests) in
    let high : c < 1114112 = grind (arith, nat_tests) in
    let e : (240 + c / 262144) ∷ (128 + (c / 4096) % 64) ∷ (128 + (c / 64) % 64) ∷ (128 + c % 64) ∷ rest
    ≡ b ∷ text = rw (t1, t2, t3) at e0 in
    let first = head_of e in
    let behind = tail_of e in
    let more = two_more c rest u in
    elim (leb_tells 0x40000 c) as (λ _. Found b text) [
      | inr p ↦ (
        NotOverlongOfFour,
        omega (arith, first, p.1),
        subst (CharacterLeft NotOverlongOfFour IsUtf8) behind (omega (arith, p.1), omega arith, more),
      )
      | inl p ↦ elim (leb_tells 0x100000 c) as (λ _. Found b text) [
        | inr q ↦ (
          ThreeBytes,
          (omega (arith, first, p.1), omega (arith, first, q.1)),
          subst (CharacterLeft ThreeBytes IsUtf8) behind (omega arith, omega arith, more),
        )
        | inl q ↦ (
          NotPastTheLast,
          omega (arith, first, q.1, high),
          subst (CharacterLeft NotPastTheLast IsUtf8) behind (omega arith, omega (arith, q.1, high), more),
        )
      ]
    ]

no_ascii : (c : ℕ) (rest : List ℕ) (b : ℕ) (text : List ℕ) → c < 128
    → encode_utf8 c ++ rest ≡ b ∷ text → b < 128
unfolding encode_utf8
no_ascii c rest b text h e0 =
    let t1 : nat_lt c 128 ≡ true = grind (arith, nat_tests) in
    let e : c ∷ rest ≡ b ∷ text = rw t1 at e0 in
    omega (arith, h, head_of e)

pub found : (cs : List ℕ) (b : ℕ) (text : List ℕ) → 128 ≤ b → scalars cs ≡ true
    → encode_utf8_all cs ≡ b ∷ text → Found b text
found [] b text l s e = absurd (omega (arith, ap length e))
found (c ∷ cs) b text l s e =
    let both = and_parts _ _ s in
    let rest = encode_utf8_all cs in
    let u : IsUtf8 rest = (cs, (both.1, refl)) in
    elim (leb_tells 128 c) as (λ _. Found b text) [
      | inr p ↦ absurd (omega (arith, l, no_ascii c rest b text p.1 e))
      | inl p ↦ elim (leb_tells 2048 c) as (λ _. Found b text) [
        | inr q ↦ found_two c rest b text p.1 q.1 u e
        | inl q ↦ elim (leb_tells 65536 c) as (λ _. Found b text) [
          | inr r ↦ found_three c rest b text q.1 r.1 both.0 u e
          | inl r ↦ found_four c rest b text r.1 both.0 u e
        ]
      ]
    ]
