-- The bytes that the protocol gives a meaning.
use Rattle.std.specs.Prelude.{ℕ, ◌==◌, Bool, List, codes}

-- carriage return, CR
abbrev pub carriage_return : ℕ
carriage_return = 13

-- line feed, LF
abbrev pub line_feed : ℕ
line_feed = 10

abbrev pub is_line_feed : ℕ → Bool
is_line_feed byte = byte == line_feed

-- CR LF, the end of a line
abbrev pub line_end : List ℕ
line_end = codes "\r\n"
