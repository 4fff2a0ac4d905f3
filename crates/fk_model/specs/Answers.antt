-- The answers of a turn as bytes.
use Rattle.std.specs.Prelude.{ℕ, List, [], ◌∷◌, map, codes, Contains}
use Rattle.fk_frame.specs.declared.reply.Reply.{Reply}
use Rattle.fk_frame.specs.declared.reply.Reply.TheVariants.{Error}
use Rattle.fk_frame.specs.Replies.{reply_bytes}
use Rattle.fk_model.specs.declared.answer.Answer.{Answer}
use Rattle.fk_model.specs.declared.answer.Answer.TheVariants.{Said, NoMemory, Full, DiskFault}

-- what is said where a turn couldn't be made
abbrev pub out_of_memory : Reply
out_of_memory = Error (codes "ERR Out of memory")

abbrev pub full : Reply
full = Error (codes "ERR Full")

abbrev pub disk_fault : Reply
disk_fault = Error (codes "ERR Disk fault")

-- the reply that a client gets for an answer
abbrev pub reply_of : Answer → Reply
reply_of (Said reply) = reply
reply_of NoMemory = out_of_memory
reply_of Full = full
reply_of DiskFault = disk_fault

-- an answer's bytes
abbrev pub answer_bytes : Answer → List ℕ
answer_bytes answer = reply_bytes (reply_of answer)

-- the bytes of the answers of turns that couldn't be made
abbrev pub turn_texts : List (List ℕ)
turn_texts = map reply_bytes (out_of_memory ∷ full ∷ disk_fault ∷ [])

-- the reply isn't taken for that of a turn that couldn't be made
abbrev pub IsToldApart : Reply → Type 0
IsToldApart reply = ¬ Contains turn_texts (reply_bytes reply)
