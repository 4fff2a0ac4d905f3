-- Replies as bytes, after Faktory's protocol specification: the forms of Redis' RESP that it takes,
-- without integers and arrays.
use Rattle.std.specs.Prelude.{ℕ, ◌<◌, ◌^◌, ◌==◌, ◌&&◌, Bool, not, IsTrue, List, ◌++◌, length, codes}
use Rattle.std.specs.List.{list_all}
use Rattle.std.specs.Fmt.{decimal}
use Rattle.fk_frame.specs.declared.reply.Reply.{Reply}
use Rattle.fk_frame.specs.declared.reply.Reply.TheVariants.{Status, Error, Bulk, Nil}
use Rattle.fk_frame.specs.Bytes.{carriage_return, line_feed, line_end}

-- a status is `+` and its text, an error `-` and its text, a bulk `$`, its length in decimal and, on
-- a line of its own, its text, and no bulk is `$-1`; each ends with CR LF
abbrev pub reply_bytes : Reply → List ℕ
reply_bytes (Status text) = codes "+" ++ text ++ line_end
reply_bytes (Error text) = codes "-" ++ text ++ line_end
reply_bytes (Bulk text) = codes "$" ++ decimal (length text) ++ line_end ++ text ++ line_end
reply_bytes Nil = codes "$-1" ++ line_end

-- neither CR nor LF
abbrev pub is_within_line : ℕ → Bool
is_within_line byte = not (byte == carriage_return) && not (byte == line_feed)

-- a text without CR and LF
abbrev pub IsOneLine : List ℕ → Type 0
IsOneLine text = IsTrue (list_all is_within_line text)

-- a reply that can be told apart: a status and an error are one line
abbrev pub IsWellFormed : Reply → Type 0
IsWellFormed (Status text) = IsOneLine text
IsWellFormed (Error text) = IsOneLine text
IsWellFormed (Bulk text) = Unit {0}
IsWellFormed Nil = Unit {0}

-- a bulk's length is one that a memory holds
abbrev pub FitsMemory : Reply → Type 0
FitsMemory (Status text) = Unit {0}
FitsMemory (Error text) = Unit {0}
FitsMemory (Bulk text) = length text < 2 ^ 64
FitsMemory Nil = Unit {0}
