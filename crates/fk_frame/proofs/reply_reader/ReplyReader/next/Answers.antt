use Rattle.fk_frame.proofs.Searches.{first_break, searched_on}
use Rattle.fk_frame.proofs.reply_reader.ReplyReader.next.Goals as goal

pub first_reply-requires : goal.first_reply-requires
first_reply-requires c =
    let place = rw c.deref.ensures.value at c.line_end-self-inside.ensures.place in
    rw (c.bytes_from-stream.ensures, c.deref-2.ensures.value) (first_break _ _ _ _ c.self.invariant place)

pub invariant_of-self : goal.invariant_of-self
invariant_of-self c =
    searched_on _ _ _ _ c.self.invariant (rw c.deref.ensures.value at c.line_end-self-inside.ensures.place)

pub invariant_of-self-in-None : goal.invariant_of-self-in-None
invariant_of-self-in-None c =
    searched_on _ _ _ _ c.self.invariant (rw c.deref.ensures.value at c.line_end-self-inside.ensures.place)
