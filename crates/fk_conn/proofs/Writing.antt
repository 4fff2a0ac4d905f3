-- Bytes that are written in steps.
use Rattle.std.proofs.Common.{◌≡◌, ℕ, ◌<◌, List, [], ◌++◌, length, refl, ap, sym, ◌∙◌, arith, append_assoc, length-append}
use Rattle.std.proofs.lemmas.List.{append-nil}
use Rattle.fk_io.specs.Content.{Written}
use Rattle.fk_io.specs.Faults.{Rose}
use Rattle.fk_io.proofs.Content.{gained_nothing, gained_both}
use Rattle.fk_frame.specs.declared.reply.Reply.{Reply}
use Rattle.fk_frame.specs.declared.reply.Reply.TheVariants.{Status, Error, Bulk, Nil}
use Rattle.fk_frame.specs.Replies.{reply_bytes}
use Rattle.fk_conn.specs.Session.{Begins, IsPartOf}
use Rattle.fk_conn.specs.Answering.{Wrote}

-- nothing was written
pub wrote_nothing : (out : Written) → Wrote out out []
wrote_nothing out = record { gained = gained_nothing out.held; stays = refl }

-- some bytes were written, and then more
pub wrote_both : (old mid new : Written) (xs ys : List ℕ) → Wrote old mid xs → Wrote mid new ys
    → Wrote old new (xs ++ ys)
wrote_both old mid new xs ys first second = record {
  gained = gained_both old.held mid.held new.held xs ys first.gained second.gained;
  stays = second.stays ∙ first.stays;
}

-- a list begins itself
pub begins_all : (xs : List ℕ) → Begins xs xs
begins_all xs = ([], sym (append-nil xs))

-- what begins a list begins it behind another one, too
pub begins_behind : (xs front whole : List ℕ) → Begins front whole → Begins (xs ++ front) (xs ++ whole)
begins_behind xs front whole (rest, is) = (rest, ap (λ s. xs ++ s) is ∙ sym (append_assoc xs front rest))

pub part_behind : (xs front whole : List ℕ) → IsPartOf front whole → IsPartOf (xs ++ front) (xs ++ whole)
part_behind xs front whole (rest, some, is) =
    (rest, some, ap (λ s. xs ++ s) is ∙ sym (append_assoc xs front rest))

-- what begins a list begins it also where more follows
pub begins_more : (front whole more : List ℕ) → Begins front whole → Begins front (whole ++ more)
begins_more front whole more (rest, is) =
    (rest ++ more, ap (λ s. s ++ more) is ∙ append_assoc front rest more)

pub part_of_more : (front whole more : List ℕ) → IsPartOf front whole → IsPartOf front (whole ++ more)
part_of_more front whole more (rest, some, is) = (
  rest ++ more,
  omega (arith, some, length-append rest more),
  ap (λ s. s ++ more) is ∙ append_assoc front rest more,
)

-- a part of a list begins it
pub part_begins : (front whole : List ℕ) → IsPartOf front whole → Begins front whole
part_begins front whole (rest, some, is) = (rest, is)

-- a count that stayed, and then rose, has risen
pub rose_since : (before now later : ℕ) → now ≡ before → Rose now later → Rose before later
rose_since before now later same rose = rw same at rose

-- each reply has some bytes
pub some_bytes : (reply : Reply) → 0 < length (reply_bytes reply)
some_bytes (Status text) = omega arith
some_bytes (Error text) = omega arith
some_bytes (Bulk text) = omega arith
some_bytes Nil = omega arith
