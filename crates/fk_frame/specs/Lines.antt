-- A stream cut into lines. A line ends at LF, and one CR right before it is dropped.
use Rattle.std.specs.Prelude.{ℕ, ◌-◌, ◌==◌, Bool, nat_lt, List, [], ◌∷◌, length, take, if◌then◌else◌, slice_index}
use Rattle.std.specs.List.{slice_split}
use Rattle.fk_frame.specs.declared.line_reader.Line.{Line}
use Rattle.fk_frame.specs.declared.line_reader.Line.TheVariants.{Whole, TooLong}
use Rattle.fk_frame.specs.Bytes.{carriage_return, is_line_feed}

-- the most bytes that a line may have before its line feed, with the CR
abbrev pub longest_line : ℕ
longest_line = 4_194_304

-- the list without its last item
abbrev pub all_but_last : {X : Type 0} → List X → List X
all_but_last items = take (length items - 1) items

-- the line without the CR at its end, where there is one
abbrev pub without_return : List ℕ → List ℕ
without_return line =
    if slice_index line (length line - 1) == carriage_return then all_but_last line else line

-- more bytes than a line may have, the CR at its end among them
abbrev pub is_too_long : List ℕ → Bool
is_too_long part = nat_lt longest_line (length part)

-- what stands before a line feed, as a line
abbrev pub line_of : List ℕ → Line
line_of part = if is_too_long part then TooLong else Whole (without_return part)

-- the lines of a stream's parts. No line feed stands behind the last part: so it is left out, unless
-- it is too long already
abbrev pub lines_in : List (List ℕ) → List Line
lines_in [] = []
lines_in (last ∷ []) = if is_too_long last then TooLong ∷ [] else []
lines_in (part ∷ next ∷ parts) = line_of part ∷ lines_in (next ∷ parts)

-- the stream's lines: its parts up to each line feed, and what stands behind the last one
abbrev pub lines_of : List ℕ → List Line
lines_of bytes = lines_in (slice_split is_line_feed bytes)
