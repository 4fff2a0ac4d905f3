-- What a pattern matches: a whole text, byte by byte. The rules are this server's own.
use Rattle.std.specs.Prelude.{ℕ, ◌==◌, ◌&&◌, Bool, true, false, if◌then◌else◌, List, [], ◌∷◌}
use Rattle.std.specs.List.{list_any}

-- what a part of a pattern stands for: any bytes, or none; any one byte; or one byte itself
pub data Part : Type 0 where
  run : Part
  one : Part
  itself : ℕ → Part

-- `*`
abbrev pub star : ℕ
star = 42

-- `?`
abbrev pub question_mark : ℕ
question_mark = 63

-- `\`
abbrev pub backslash : ℕ
backslash = 92

-- what a byte stands for that no `\` escapes
abbrev pub part_of : ℕ → Part
part_of byte = if byte == star then run else (if byte == question_mark then one else itself byte)

-- the parts of a pattern: a `\` and the byte behind it are that byte, and a `\` at the end is itself
unfoldable pub parts_of : List ℕ → List Part
parts_of [] = []
parts_of (byte ∷ []) = part_of byte ∷ []
parts_of (byte ∷ next ∷ rest) =
    if byte == backslash then itself next ∷ parts_of rest else part_of byte ∷ parts_of (next ∷ rest)

-- the ends of a text: the whole of it, and what is left behind each of its bytes
abbrev pub ends_of : List ℕ → List (List ℕ)
ends_of [] = [] ∷ []
ends_of (byte ∷ rest) = (byte ∷ rest) ∷ ends_of rest

-- the parts, one after the other, are the whole text: what is behind a run is some end of what is left
unfoldable pub are_whole : List Part → List ℕ → Bool
are_whole [] [] = true
are_whole [] (byte ∷ rest) = false
are_whole (run ∷ parts) text = list_any (are_whole parts) (ends_of text)
are_whole (one ∷ parts) [] = false
are_whole (one ∷ parts) (byte ∷ rest) = are_whole parts rest
are_whole (itself byte ∷ parts) [] = false
are_whole (itself byte ∷ parts) (first ∷ rest) = (first == byte) && are_whole parts rest

-- the pattern matches the text
abbrev pub globs : List ℕ → List ℕ → Bool
globs pattern text = are_whole (parts_of pattern) text
