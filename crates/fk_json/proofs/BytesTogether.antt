-- Bytes that may stand behind such a first byte make a character.
use Rattle.std.proofs.Common.{◌≡◌, ℕ, ◌+◌, ◌-◌, ◌*◌, ◌<◌, ◌≤◌, nat_lt, true, false, List, [], ◌∷◌, subst, arith}
use Rattle.std.specs.Char.{IsScalar, encode_utf8}
use Rattle.std.specs.Str.{IsUtf8}
use Rattle.std.proofs.lemmas.Bool.Decides.{nat_tests}
use Rattle.std.proofs.lemmas.Str.{IsUtf8-append, IsUtf8-encode}
use Rattle.fk_json.specs.declared.string_mode.StringMode.{StringMode}
use Rattle.fk_json.specs.declared.string_mode.StringMode.TheVariants.{Inside, Escape, Four, Three, Two, One, LastByte, TwoBytes, ThreeBytes, NotOverlongOfThree, NoSurrogate, NotOverlongOfFour, NotPastTheLast, Closed}
use Rattle.fk_json.proofs.FirstBytes.{BeginsWith, CharacterLeft}

two_then : (a b : ℕ) (rest : List ℕ) → 0xC2 ≤ a → a < 0xE0 → 0x80 ≤ b → b < 0xC0 → IsUtf8 rest
    → IsUtf8 (a ∷ b ∷ rest)
unfolding encode_utf8
two_then a b rest h1 h2 h3 h4 u =
    let c = (a - 192) * 64 + (b - 128) in
    let small : nat_lt c 128 ≡ false = grind (arith, nat_tests) in
    let large : nat_lt c 2048 ≡ true = grind (arith, nat_tests) in
    let scalar : IsScalar c = grind (arith, nat_tests) in
    let is : encode_utf8 c ≡ a ∷ b ∷ [] = rw (small, large) (grind arith) in
    IsUtf8-append (a ∷ b ∷ []) rest (subst IsUtf8 is (IsUtf8-encode c scalar)) u

abbrev of_three : ℕ → ℕ → ℕ → ℕ
of_three a b x = (a - 224) * 4096 + (b - 128) * 64 + (x - 128)

three_then : (a b x : ℕ) (rest : List ℕ) → 0xE0 ≤ a → a < 0xF0 → 0x80 ≤ b → b < 0xC0
    → 0x80 ≤ x → x < 0xC0 → 2048 ≤ of_three a b x → IsScalar (of_three a b x) → IsUtf8 rest
    → IsUtf8 (a ∷ b ∷ x ∷ rest)
unfolding encode_utf8
three_then a b x rest h1 h2 h3 h4 h5 h6 large scalar u =
    let c = of_three a b x in
    let t1 : nat_lt c 128 ≡ false = grind (arith, nat_tests) in
    let t2 : nat_lt c 2048 ≡ false = grind (arith, nat_tests) in
    let t3 : nat_lt c 65536 ≡ true = grind (arith, nat_tests) in
    let is : encode_utf8 c ≡ a ∷ b ∷ x ∷ [] = rw (t1, t2, t3) (grind arith) in
    IsUtf8-append (a ∷ b ∷ x ∷ []) rest (subst IsUtf8 is (IsUtf8-encode c scalar)) u

abbrev of_four : ℕ → ℕ → ℕ → ℕ → ℕ
of_four a b x y = (a - 240) * 262144 + (b - 128) * 4096 + (x - 128) * 64 + (y - 128)

four_then : (a b x y : ℕ) (rest : List ℕ) → 0xF0 ≤ a → a ≤ 0xF4 → 0x80 ≤ b → b < 0xC0
    → 0x80 ≤ x → x < 0xC0 → 0x80 ≤ y → y < 0xC0
    → 65536 ≤ of_four a b x y → of_four a b x y < 1114112 → IsUtf8 rest
    → IsUtf8 (a ∷ b ∷ x ∷ y ∷ rest)
unfolding encode_utf8
four_then a b x y rest h1 h2 h3 h4 h5 h6 h7 h8 large small u =
    let c = of_four a b x y in
    let t1 : nat_lt c 128 ≡ false = grind (arith, nat_tests) in
    let t2 : nat_lt c 2048 ≡ false = grind (arith, nat_tests) in
    let t3 : nat_lt c 65536 ≡ false = grind (arith, nat_tests) in
    let scalar : IsScalar c = grind (arith, nat_tests) in
    let is : encode_utf8 c ≡ a ∷ b ∷ x ∷ y ∷ [] = rw (t1, t2, t3) (grind arith) in
    IsUtf8-append (a ∷ b ∷ x ∷ y ∷ []) rest (subst IsUtf8 is (IsUtf8-encode c scalar)) u

pub character_from : (mode : StringMode) (b : ℕ) (text : List ℕ) → BeginsWith mode b
    → CharacterLeft mode IsUtf8 text → IsUtf8 (b ∷ text)
character_from LastByte b (x ∷ rest) h t = two_then b x rest h.0 h.1 t.0 t.1 t.2
character_from TwoBytes b (x ∷ y ∷ rest) h t =
    three_then b x y rest (omega (arith, h.0)) h.1 t.0 t.1 t.2.0 t.2.1
    (omega (arith, h.0, t.0, t.1))
    (grind (arith, nat_tests, h.0, h.1, h.2, t.0, t.1, t.2.0, t.2.1)) t.2.2
character_from NotOverlongOfThree b (x ∷ y ∷ rest) h t =
    three_then b x y rest (omega (arith, h)) (omega (arith, h)) (omega (arith, t.0)) t.1 t.2.0 t.2.1
    (omega (arith, h, t.0)) (grind (arith, nat_tests, h, t.0, t.1, t.2.0, t.2.1)) t.2.2
character_from NoSurrogate b (x ∷ y ∷ rest) h t =
    three_then b x y rest (omega (arith, h)) (omega (arith, h)) t.0 (omega (arith, t.1)) t.2.0 t.2.1
    (omega (arith, h)) (grind (arith, nat_tests, h, t.0, t.1, t.2.0, t.2.1)) t.2.2
character_from ThreeBytes b (x ∷ y ∷ z ∷ rest) h t =
    four_then b x y z rest (omega (arith, h.0)) (omega (arith, h.1)) t.0 t.1 t.2.0 t.2.1 t.2.2.0 t.2.2.1
    (omega (arith, h.0)) (omega (arith, h.1, t.1, t.2.1, t.2.2.1)) t.2.2.2
character_from NotOverlongOfFour b (x ∷ y ∷ z ∷ rest) h t =
    four_then b x y z rest (omega (arith, h)) (omega (arith, h)) (omega (arith, t.0)) t.1
    t.2.0 t.2.1 t.2.2.0 t.2.2.1
    (omega (arith, h, t.0)) (omega (arith, h, t.1, t.2.1, t.2.2.1)) t.2.2.2
character_from NotPastTheLast b (x ∷ y ∷ z ∷ rest) h t =
    four_then b x y z rest (omega (arith, h)) (omega (arith, h)) t.0 (omega (arith, t.1))
    t.2.0 t.2.1 t.2.2.0 t.2.2.1
    (omega (arith, h)) (omega (arith, h, t.1, t.2.1, t.2.2.1)) t.2.2.2
character_from LastByte b [] h t = absurd t
character_from TwoBytes b [] h t = absurd t
character_from TwoBytes b (x ∷ []) h t = absurd t.2
character_from NotOverlongOfThree b [] h t = absurd t
character_from NotOverlongOfThree b (x ∷ []) h t = absurd t.2
character_from NoSurrogate b [] h t = absurd t
character_from NoSurrogate b (x ∷ []) h t = absurd t.2
character_from ThreeBytes b [] h t = absurd t
character_from ThreeBytes b (x ∷ []) h t = absurd t.2
character_from ThreeBytes b (x ∷ y ∷ []) h t = absurd t.2.2
character_from NotOverlongOfFour b [] h t = absurd t
character_from NotOverlongOfFour b (x ∷ []) h t = absurd t.2
character_from NotOverlongOfFour b (x ∷ y ∷ []) h t = absurd t.2.2
character_from NotPastTheLast b [] h t = absurd t
character_from NotPastTheLast b (x ∷ []) h t = absurd t.2
character_from NotPastTheLast b (x ∷ y ∷ []) h t = absurd t.2.2
character_from Inside b text h t = absurd t
character_from Escape b text h t = absurd t
character_from Four b text h t = absurd t
character_from Three b text h t = absurd t
character_from Two b text h t = absurd t
character_from One b text h t = absurd t
character_from Closed b text h t = absurd t
