-- UTF-8 byte by byte: what may stand behind the first byte of a character of more than one.
use Rattle.std.proofs.Common.{◌≡◌, ◌↔◌, ℕ, ◌≤◌, List, ◌∷◌, Some, None, sym, subst, ◌∙◌, arith}
use Rattle.std.specs.Str.{IsUtf8}
use Rattle.std.proofs.lemmas.Option.{none-some}
use Rattle.fk_json.specs.Tokens.{character_first}
use Rattle.fk_json.specs.declared.string_mode.StringMode.{StringMode}
use Rattle.fk_json.specs.declared.string_mode.StringMode.TheVariants.{Inside, Escape, Four, Three, Two, One, LastByte, TwoBytes, ThreeBytes, NotOverlongOfThree, NoSurrogate, NotOverlongOfFour, NotPastTheLast, Closed}
use Rattle.fk_json.proofs.FirstBytes.{BeginsWith, CharacterLeft, first_begins, first_is, some_same}
use Rattle.fk_json.proofs.BytesTogether.{character_from}
use Rattle.fk_json.proofs.BytesFound.{found}

pub first_high : (mode : StringMode) (b : ℕ) → BeginsWith mode b → 128 ≤ b
first_high LastByte b h = omega (arith, h.0)
first_high TwoBytes b h = omega (arith, h.0)
first_high ThreeBytes b h = omega (arith, h.0)
first_high NotOverlongOfThree b h = omega (arith, h)
first_high NoSurrogate b h = omega (arith, h)
first_high NotOverlongOfFour b h = omega (arith, h)
first_high NotPastTheLast b h = omega (arith, h)
first_high Inside b h = absurd h
first_high Escape b h = absurd h
first_high Four b h = absurd h
first_high Three b h = absurd h
first_high Two b h = absurd h
first_high One b h = absurd h
first_high Closed b h = absurd h

-- a first byte leads to what is left of its character
pub character_goes : (b : ℕ) (mode : StringMode) (text : List ℕ) → character_first b ≡ Some mode
    → IsUtf8 (b ∷ text) ↔ CharacterLeft mode IsUtf8 text
character_goes b mode text e =
    let begins = first_begins b mode e in (
      λ u.
          let (other, starts, left) = found u.0 b text (first_high mode b begins) u.1.0 u.1.1 in
          let same = some_same (sym (first_is other b starts) ∙ e) in
          subst (λ m. CharacterLeft m IsUtf8 text) same left,
      λ left. character_from mode b text begins left,
    )

-- and no text goes on behind a byte that is none
pub character_stops : (b : ℕ) (text : List ℕ) → 128 ≤ b → character_first b ≡ None → ¬ IsUtf8 (b ∷ text)
character_stops b text l e u =
    let (mode, starts, left) = found u.0 b text l u.1.0 u.1.1 in
    none-some mode (sym e ∙ first_is mode b starts)
