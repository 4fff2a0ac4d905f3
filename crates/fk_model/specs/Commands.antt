-- A command is one line: a verb, and behind its first space the arguments.
use Rattle.std.specs.Prelude.{ℕ, ◌==◌, Bool, List}
use Rattle.std.specs.List.{before_first, after_first}
use Rattle.std.specs.Str.{bytes_eq}

abbrev pub is_space : ℕ → Bool
is_space byte = byte == 32

-- the bytes before the first space, or the whole line
abbrev pub verb : List ℕ → List ℕ
verb line = before_first is_space line

-- the bytes behind the first space, or nothing
abbrev pub arguments : List ℕ → List ℕ
arguments line = after_first is_space line

-- the line's verb, byte for byte
abbrev pub has_verb : List ℕ → List ℕ → Bool
has_verb name line = bytes_eq (verb line) name
