-- How a string is read from its front, part by part.
use Rattle.std.specs.Prelude.{◌≡◌, ℕ, List, [], ◌∷◌, ◌++◌, ◌&&◌, if◌then◌else◌, Option, None, Some, flat_map, map, encode_utf8, drop}
use Rattle.std.specs.Char.Utf16.{is_high_surrogate, is_low_surrogate, surrogate_pair_char}
use Rattle.std.specs.List.{AllByRecursion, prefix_len, take_while}
use Rattle.fk_json.specs.String.{Part, byte, letter, unit, IsPart, code_unit, letter_byte, lone_unit, is_itself, part_text, quote}
use Rattle.fk_json.specs.declared.piece.Piece.{Piece}
use Rattle.fk_json.specs.declared.piece.Piece.TheVariants.{Byte, Unit}

-- what a part brings: a byte, or a code unit of UTF-16
abbrev pub piece_of : Part → Piece
piece_of (byte b) = Byte b
piece_of (letter l) = Byte (letter_byte l)
piece_of (unit a b c d) = Unit (code_unit a b c d)

-- the bytes begin with a part that brings the piece, and go on behind it
pub record Takes (bytes : List ℕ) (piece : Piece) (after : List ℕ) : Type 0 where
  pub part : Part
  pub fits : IsPart part
  pub whole : bytes ≡ part_text part ++ after
  pub brings : piece ≡ piece_of part

-- no part begins the bytes
abbrev pub NoPart : List ℕ → Type 0
NoPart bytes = (part : Part) (after : List ℕ) → IsPart part → ¬ (bytes ≡ part_text part ++ after)

-- a high surrogate that finds no partner
abbrev pub alone : Option ℕ → List ℕ
alone None = []
alone (Some high) = lone_unit high

-- the character of a high surrogate and a low one
abbrev pub pair_of : Option ℕ → ℕ → Option ℕ
pair_of None u = None
pair_of (Some high) u =
    if is_high_surrogate high && is_low_surrogate u then Some (surrogate_pair_char high u) else None

-- A code unit behind a high surrogate: their character and what follows, or the high surrogate
-- alone and the unit, which may be one that looks for its partner.
abbrev pub behind_high : Option ℕ → Option ℕ → ℕ → List ℕ → List ℕ → List ℕ
behind_high (Some char) high u after after_unit = encode_utf8 char ++ after
behind_high None high u after after_unit =
    alone high ++ (if is_high_surrogate u then after_unit else lone_unit u ++ after)

-- what pieces stand for behind a high surrogate that may find its partner
abbrev pub sense : Option ℕ → List Piece → List ℕ
sense high [] = alone high
sense high (Byte b ∷ pieces) = alone high ++ b ∷ sense None pieces
sense high (Unit u ∷ pieces) =
    behind_high (pair_of high u) high u (sense None pieces) (sense (Some u) pieces)

-- the bytes are parts and the closing quote, and stand for the value behind a high surrogate
pub record StandsFor (high : Option ℕ) (bytes value : List ℕ) : Type 0 where
  pub parts : List Part
  pub each : AllByRecursion IsPart parts
  pub whole : bytes ≡ flat_map part_text parts ++ quote ∷ []
  pub means : value ≡ sense high (map piece_of parts)

-- a quote, parts and the closing quote
abbrev pub IsQuoted : List ℕ → List ℕ → Type 0
IsQuoted text value = (inside : List ℕ) × (text ≡ quote ∷ inside) × StandsFor None inside value

-- a value gains the bytes at the front of others that stand for themselves, unless a high surrogate
-- looks for its partner there
abbrev pub GainsBehind : Option ℕ → List ℕ → List ℕ → List ℕ → List ℕ → Type 0
GainsBehind None value bytes new rest =
    (new ≡ value ++ take_while is_itself bytes) × (rest ≡ drop (prefix_len is_itself bytes) bytes)
GainsBehind (Some high) value bytes new rest = (new ≡ value) × (rest ≡ bytes)
