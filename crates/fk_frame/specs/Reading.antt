-- What a reader of lines gives out of the stream that it was fed.
use Rattle.std.specs.Prelude.{◌≡◌, ◌<◌, ◌≤◌, List, ℕ, [], ◌∷◌, ◌++◌, length, Contains}
use Rattle.std.specs.List.{before_first, after_first}
use Rattle.fk_frame.specs.declared.line_reader.Line.{Line}
use Rattle.fk_frame.specs.declared.line_reader.Line.TheVariants.{Whole, Need, TooLong}
use Rattle.fk_frame.specs.Bytes.{line_feed, is_line_feed}
use Rattle.fk_frame.specs.Lines.{longest_line, lines_of, without_return}

-- the bytes before the stream's first line feed, or all of them where there is none
abbrev pub front_of : List ℕ → List ℕ
front_of stream = before_first is_line_feed stream

-- the first line of a stream that has one, and the stream behind it: in whatever way the stream goes
-- on, its lines are this one and those of the rest
pub record IsFirstLine (stream line rest : List ℕ) : Type 0 where
  pub ended : Contains stream line_feed
  pub fits : length (front_of stream) ≤ longest_line
  pub front : line ≡ without_return (front_of stream)
  pub behind : rest ≡ after_first is_line_feed stream
  pub lines : (more : List ℕ) → lines_of (stream ++ more) ≡ Whole line ∷ lines_of (rest ++ more)

-- the stream has a whole line in front, which isn't too long
abbrev pub HasLine : List ℕ → Type 0
HasLine stream = (line rest : List ℕ) × IsFirstLine stream line rest

-- no line ends in the stream, its bytes still fit into one, and it stays
pub record HasNoLine (stream rest : List ℕ) : Type 0 where
  pub unended : ¬ Contains stream line_feed
  pub fits : length stream ≤ longest_line
  pub same : rest ≡ stream
  pub lines : lines_of stream ≡ []

-- more bytes than a line may have stand before the stream's first line feed, or before its end where
-- it has none. The stream stays, and in whatever way it goes on, its first line is too long
pub record HasLongLine (stream rest : List ℕ) : Type 0 where
  pub long : longest_line < length (front_of stream)
  pub same : rest ≡ stream
  pub lasts : (more : List ℕ) → longest_line < length (front_of (stream ++ more))
  pub lines : (more : List ℕ) → (behind : List Line) × (lines_of (stream ++ more) ≡ TooLong ∷ behind)

-- what a reader with this stream gives out, and the stream that it has then
abbrev pub Reads : List ℕ → Line → List ℕ → Type 0
Reads stream (Whole line) rest = IsFirstLine stream line rest
Reads stream Need rest = HasNoLine stream rest
Reads stream TooLong rest = HasLongLine stream rest
