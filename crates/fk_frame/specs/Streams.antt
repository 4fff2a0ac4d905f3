-- What a stream of replies begins with: a reply, a reply that is cut off, or neither.
use Rattle.std.specs.Prelude.{◌≡◌, ℕ, ◌<◌, ◌^◌, List, ◌++◌, length, Result, Ok, Err, Option, None, Some}
use Rattle.fk_frame.specs.declared.reply.Reply.{Reply}
use Rattle.fk_frame.specs.declared.reply.Reply.TheVariants.{Status, Error, Bulk, Nil}
use Rattle.fk_frame.specs.declared.reply_fault.ReplyFault.{ReplyFault}
use Rattle.fk_frame.specs.declared.reply_fault.ReplyFault.TheVariants.{BadReply, NoMemory}
use Rattle.fk_frame.specs.Replies.{reply_bytes, IsOneLine}

-- a reply that is read: a status and an error are one line, and a bulk's length is a number of 64 bits
-- with a sign
abbrev pub IsReadable : Reply → Type 0
IsReadable (Status text) = IsOneLine text
IsReadable (Error text) = IsOneLine text
IsReadable (Bulk text) = length text < 2 ^ 63
IsReadable Nil = Unit {0}

-- the stream is a reply's bytes, and then the rest
pub record BeginsWith (stream : List ℕ) (reply : Reply) (rest : List ℕ) : Type 0 where
  pub readable : IsReadable reply
  pub whole : stream ≡ reply_bytes reply ++ rest

-- the stream begins with a reply
abbrev pub HasReply : List ℕ → Type 0
HasReply stream = (reply : Reply) × (rest : List ℕ) × BeginsWith stream reply rest

-- the stream is a reply's bytes but for more of them at the end
pub record IsBut (stream : List ℕ) (reply : Reply) (more : List ℕ) : Type 0 where
  pub readable : IsReadable reply
  pub some : 0 < length more
  pub whole : stream ++ more ≡ reply_bytes reply

-- the stream is a reply that is cut off before its end, or empty
abbrev pub IsCutOff : List ℕ → Type 0
IsCutOff stream = (reply : Reply) × (more : List ℕ) × IsBut stream reply more

-- the stream neither begins with a reply nor is one that is cut off, in whatever way it goes on
pub record IsBroken (stream : List ℕ) : Type 0 where
  pub no_reply : (more : List ℕ) → ¬ HasReply (stream ++ more)
  pub not_cut_off : (more : List ℕ) → ¬ IsCutOff (stream ++ more)

-- what a reader with this stream gives out, and the stream that it has then
abbrev pub Gives : List ℕ → Result (Option Reply) ReplyFault → List ℕ → Type 0
Gives stream (Ok (Some reply)) rest = BeginsWith stream reply rest
Gives stream (Ok None) rest = IsCutOff stream × (rest ≡ stream)
Gives stream (Err BadReply) rest = IsBroken stream × (rest ≡ stream)
Gives stream (Err NoMemory) rest = HasReply stream × (rest ≡ stream)
