-- The parts of a reply at the front of a stream.
use Rattle.std.specs.Prelude.{◌≡◌, ◌≢◌, ℕ, ◌-◌, ◌<◌, ◌≤◌, ◌^◌, ◌==◌, ◌&&◌, ◌||◌, Bool, not, true, false, List, [], ◌∷◌, ◌++◌, codes, length, drop, slice_index, Result, Ok, Err, Option, None, Some}
use Rattle.std.specs.Fmt.{decimal}
use Rattle.std.specs.List.{position_or_len}
use Rattle.std.specs.Str.{bytes_eq}
use Rattle.fk_frame.specs.declared.front.First.{First}
use Rattle.fk_frame.specs.declared.reply_fault.ReplyFault.{ReplyFault}
use Rattle.fk_frame.specs.declared.reply_fault.ReplyFault.TheVariants.{BadReply, NoMemory}
use Rattle.fk_frame.specs.Bytes.{carriage_return, line_feed, line_end}
use Rattle.fk_frame.specs.Streams.{BeginsWith, HasReply, IsCutOff, IsBroken}

-- CR or LF
abbrev pub is_break : ℕ → Bool
is_break byte = byte == carriage_return || byte == line_feed

-- how many bytes stand before the first CR or LF, or at all where there is none
abbrev pub line_length : List ℕ → ℕ
line_length stream = position_or_len is_break stream

-- the bytes from one place to another were looked at, and no CR or LF is among them
pub record IsSearched (bytes : List ℕ) (from scanned : ℕ) : Type 0 where
  pub begun : from ≤ scanned
  pub within : scanned ≤ length bytes
  pub no_return : (k : ℕ) → from ≤ k → k < scanned → slice_index bytes k ≢ carriage_return
  pub no_feed : (k : ℕ) → from ≤ k → k < scanned → slice_index bytes k ≢ line_feed

-- a CR or LF stands in front, or nothing at all
abbrev pub begins_break : List ℕ → Bool
begins_break [] = true
begins_break (byte ∷ bytes) = is_break byte

-- whether CR LF stands in front, or may once there is more
abbrev pub EndsLine : List ℕ → Result Bool ReplyFault → Type 0
EndsLine bytes (Ok true) = bytes ≡ line_end ++ drop 2 bytes
EndsLine bytes (Ok false) = (more : List ℕ) × (0 < length more) × (bytes ++ more ≡ line_end)
EndsLine bytes (Err BadReply) = (more rest : List ℕ) → bytes ++ more ≢ line_end ++ rest
EndsLine bytes (Err NoMemory) = ⊥

-- a plus stands in front, or a zero before other digits
abbrev pub is_padded : List ℕ → Bool
is_padded digits =
    slice_index digits 0 == 43 || (slice_index digits 0 == 48 && not (length digits == 1))

-- the digits are a bulk's length
pub record IsLength (digits : List ℕ) (count : ℕ) : Type 0 where
  pub fits : count < 2 ^ 63
  pub same : digits ≡ decimal count

-- what stands for no value, and what may come to do so
abbrev pub is_nil : List ℕ → Bool
is_nil number = bytes_eq number (codes "-1")

abbrev pub begins_nil : List ℕ → Bool
begins_nil number = length number == 0 || bytes_eq number (codes "-")

abbrev pub HasLength : List ℕ → Type 0
HasLength digits = (count : ℕ) × IsLength digits count

-- the stream's first reply, with the number of bytes behind it
pub record IsFirst (stream : List ℕ) (first : First) : Type 0 where
  pub within : first.left ≤ length stream
  pub begins : BeginsWith stream first.reply (drop (length stream - first.left) stream)

abbrev pub Finds : List ℕ → Result (Option First) ReplyFault → Type 0
Finds stream (Ok (Some first)) = IsFirst stream first
Finds stream (Ok None) = IsCutOff stream
Finds stream (Err BadReply) = IsBroken stream
Finds stream (Err NoMemory) = HasReply stream
