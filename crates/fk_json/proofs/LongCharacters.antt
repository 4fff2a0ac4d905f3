-- What is left of a string behind the first byte of a longer character.
use Rattle.std.proofs.Common.{◌≡◌, ◌↔◌, ℕ, ◌≤◌, List, [], ◌∷◌, Some, arith}
use Rattle.std.specs.Str.{IsUtf8}
use Rattle.fk_json.specs.Tokens.{character_first}
use Rattle.fk_json.specs.TokenRests.{ByteThen, InsideLeft, StringLeft}
use Rattle.fk_json.specs.declared.string_mode.StringMode.{StringMode}
use Rattle.fk_json.specs.declared.string_mode.StringMode.TheVariants.{Inside, Escape, Four, Three, Two, One, LastByte, TwoBytes, ThreeBytes, NotOverlongOfThree, NoSurrogate, NotOverlongOfFour, NotPastTheLast, Closed}
use Rattle.fk_json.proofs.FirstBytes.{BeginsWith, CharacterLeft, first_begins}
use Rattle.fk_json.proofs.Characters.{character_goes, first_high}
use Rattle.fk_json.proofs.StringParts.{Parted, high_behind, high_by, parted}

narrowed : (from end : ℕ) (R S : List ℕ → Type 0) → 128 ≤ from
    → ((rest : List ℕ) → Parted rest → R rest → S rest)
    → (text : List ℕ) → Parted text → ByteThen from end R text → ByteThen from end S text
narrowed from end R S l f [] p t = absurd t
narrowed from end R S l f (b ∷ rest) p t =
    (t.0, t.1, f rest (high_behind b rest (omega (arith, l, t.0)) p) t.2)

widened : (from end : ℕ) (R S : List ℕ → Type 0) → 128 ≤ from
    → ((rest : List ℕ) → S rest → (Parted rest) × (R rest))
    → (text : List ℕ) → ByteThen from end S text → (Parted text) × (ByteThen from end R text)
widened from end R S l f [] t = absurd t
widened from end R S l f (b ∷ rest) t =
    let (p, r) = f rest t.2 in (high_by b rest (omega (arith, l, t.0)) p, (t.0, t.1, r))

-- a byte from here to there, and one more, and two more
abbrev ThenOne : ℕ → ℕ → (List ℕ → Type 0) → List ℕ → Type 0
ThenOne from end R text = ByteThen from end (ByteThen 0x80 0xC0 R) text

abbrev ThenTwo : ℕ → ℕ → (List ℕ → Type 0) → List ℕ → Type 0
ThenTwo from end R text = ByteThen from end (ByteThen 0x80 0xC0 (ByteThen 0x80 0xC0 R)) text

inside_of : (text : List ℕ) → Parted text → IsUtf8 text → InsideLeft text
inside_of text p u = (p.0, p.1, p.2, u)

of_inside : (text : List ℕ) → InsideLeft text → (Parted text) × (IsUtf8 text)
of_inside text i = ((i.0, i.1, i.2), i.3)

last_of : (from end : ℕ) → 128 ≤ from → (text : List ℕ) → Parted text
    → ByteThen from end IsUtf8 text → ByteThen from end InsideLeft text
last_of from end l text p t = narrowed from end IsUtf8 InsideLeft l inside_of text p t

two_of : (from end : ℕ) → 128 ≤ from → (text : List ℕ) → Parted text
    → ThenOne from end IsUtf8 text → ThenOne from end InsideLeft text
two_of from end l text p t =
    narrowed from end (ByteThen 0x80 0xC0 IsUtf8) (ByteThen 0x80 0xC0 InsideLeft) l
    (last_of 0x80 0xC0 (omega arith)) text p t

three_of : (from end : ℕ) → 128 ≤ from → (text : List ℕ) → Parted text
    → ThenTwo from end IsUtf8 text → ThenTwo from end InsideLeft text
three_of from end l text p t =
    narrowed from end (ThenOne 0x80 0xC0 IsUtf8) (ThenOne 0x80 0xC0 InsideLeft) l
    (two_of 0x80 0xC0 (omega arith)) text p t

of_last : (from end : ℕ) → 128 ≤ from → (text : List ℕ)
    → ByteThen from end InsideLeft text → (Parted text) × (ByteThen from end IsUtf8 text)
of_last from end l text t = widened from end IsUtf8 InsideLeft l of_inside text t

of_two : (from end : ℕ) → 128 ≤ from → (text : List ℕ)
    → ThenOne from end InsideLeft text → (Parted text) × (ThenOne from end IsUtf8 text)
of_two from end l text t =
    widened from end (ByteThen 0x80 0xC0 IsUtf8) (ByteThen 0x80 0xC0 InsideLeft) l
    (of_last 0x80 0xC0 (omega arith)) text t

of_three : (from end : ℕ) → 128 ≤ from → (text : List ℕ)
    → ThenTwo from end InsideLeft text → (Parted text) × (ThenTwo from end IsUtf8 text)
of_three from end l text t =
    widened from end (ThenOne 0x80 0xC0 IsUtf8) (ThenOne 0x80 0xC0 InsideLeft) l
    (of_two 0x80 0xC0 (omega arith)) text t

joined : (mode : StringMode) (text : List ℕ) → Parted text → CharacterLeft mode IsUtf8 text
    → StringLeft mode text
joined LastByte text p t = last_of 0x80 0xC0 (omega arith) text p t
joined TwoBytes text p t = two_of 0x80 0xC0 (omega arith) text p t
joined ThreeBytes text p t = three_of 0x80 0xC0 (omega arith) text p t
joined NotOverlongOfThree text p t = two_of 0xA0 0xC0 (omega arith) text p t
joined NoSurrogate text p t = two_of 0x80 0xA0 (omega arith) text p t
joined NotOverlongOfFour text p t = three_of 0x90 0xC0 (omega arith) text p t
joined NotPastTheLast text p t = three_of 0x80 0x90 (omega arith) text p t
joined Inside text p t = absurd t
joined Escape text p t = absurd t
joined Four text p t = absurd t
joined Three text p t = absurd t
joined Two text p t = absurd t
joined One text p t = absurd t
joined Closed text p t = absurd t

parted_both : (mode : StringMode) (b : ℕ) (text : List ℕ) → BeginsWith mode b → StringLeft mode text
    → (Parted text) × (CharacterLeft mode IsUtf8 text)
parted_both LastByte b text h t = of_last 0x80 0xC0 (omega arith) text t
parted_both TwoBytes b text h t = of_two 0x80 0xC0 (omega arith) text t
parted_both ThreeBytes b text h t = of_three 0x80 0xC0 (omega arith) text t
parted_both NotOverlongOfThree b text h t = of_two 0xA0 0xC0 (omega arith) text t
parted_both NoSurrogate b text h t = of_two 0x80 0xA0 (omega arith) text t
parted_both NotOverlongOfFour b text h t = of_three 0x90 0xC0 (omega arith) text t
parted_both NotPastTheLast b text h t = of_three 0x80 0x90 (omega arith) text t
parted_both Inside b text h t = absurd h
parted_both Escape b text h t = absurd h
parted_both Four b text h t = absurd h
parted_both Three b text h t = absurd h
parted_both Two b text h t = absurd h
parted_both One b text h t = absurd h
parted_both Closed b text h t = absurd h

pub inside_character : (b : ℕ) (mode : StringMode) (text : List ℕ) → character_first b ≡ Some mode
    → InsideLeft (b ∷ text) ↔ StringLeft mode text
inside_character b mode text e =
    let begins = first_begins b mode e in
    let high = first_high mode b begins in
    let utf8 = character_goes b mode text e in (
      λ i. joined mode text (high_behind b text high (parted (b ∷ text) i)) (utf8.0 i.3),
      λ t.
          let (p, left) = parted_both mode b text begins t in
          inside_of (b ∷ text) (high_by b text high p) (utf8.1 left),
    )
