-- The least of a list of numbers, and of two.
use Rattle.std.specs.Prelude.{ℕ, min, List, [], ◌∷◌, Option, None, Some}
use Rattle.std.specs.Option.{option_map_or}

-- the least number, if there is any
unfoldable pub least : List ℕ → Option ℕ
least [] = None
least (number ∷ numbers) = Some (option_map_or (min number) (least numbers) number)

-- the lesser of two numbers that may be there
abbrev pub lesser_of : Option ℕ → Option ℕ → Option ℕ
lesser_of (Some one) (Some other) = Some (min one other)
lesser_of (Some one) None = Some one
lesser_of None other = other
