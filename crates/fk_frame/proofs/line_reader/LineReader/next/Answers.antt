use Rattle.std.proofs.Common.{◌≡◌, ◌<◌, ◌∙◌, length, arith, sym}
use Rattle.std.proofs.lemmas.Result.{err_from_is_err_and}
use Rattle.fk_frame.proofs.Scans.{scanned_on, no_line, long_line, first_line, has_line}
use Rattle.fk_frame.proofs.line_reader.LineReader.next.Goals as goal

pub invariant_of-self : goal.invariant_of-self
invariant_of-self c =
    scanned_on _ _ _ _ c.self.invariant (rw c.deref.ensures.value at c.line_end-end.ensures.place)

pub returns-then-is_too_long-clause-ok : goal.returns-then-is_too_long-clause-ok
returns-then-is_too_long-clause-ok c =
    let place = rw c.deref.ensures.value at c.line_end-end.ensures.place in
    let long = rw c.deref-2.ensures.value at (sym c.is_too_long.ensures ∙ c.if-is_too_long.true) in
    rw (← c.self.view_is) (long_line _ _ _ _ c.self.invariant place long)

pub invariant_of-self-then-end-len : goal.invariant_of-self-then-end-len
invariant_of-self-then-end-len c =
    scanned_on _ _ _ _ c.self.invariant (rw c.deref.ensures.value at c.line_end-end.ensures.place)

pub returns-then-end-len-clause-ok : goal.returns-then-end-len-clause-ok
returns-then-end-len-clause-ok c =
    let place = rw c.deref.ensures.value at c.line_end-end.ensures.place in
    let short = rw c.deref-2.ensures.value at (sym c.is_too_long.ensures ∙ c.if-is_too_long.false) in
    let all : c.line_end-end.result ≡ length c.self.inside.buffer.items = cc in
    rw (← c.self.view_is, c.give_up_front.ensures) (no_line _ _ _ _ c.self.invariant place all short)

pub returns-in_err-text-clause-wanted : goal.returns-in_err-text-clause-wanted
returns-in_err-text-clause-wanted c =
    let p = err_from_is_err_and c.from_residual.result c.from_residual.ensures.1 in
    let place = rw c.deref.ensures.value at c.line_end-end.ensures.place in
    let short = rw c.deref-2.ensures.value at (sym c.is_too_long.ensures ∙ c.if-is_too_long.false) in
    let found : c.line_end-end.result < length c.self.inside.buffer.items = omega arith in
    rw (p.1, ← c.self.view_is) (has_line _ _ _ _ c.self.invariant place found short)

pub returns-clause-ok : goal.returns-clause-ok
returns-clause-ok c =
    let place = rw c.deref.ensures.value at c.line_end-end.ensures.place in
    let short = rw c.deref-2.ensures.value at (sym c.is_too_long.ensures ∙ c.if-is_too_long.false) in
    let found : c.line_end-end.result < length c.self.inside.buffer.items = omega arith in
    let text = c.in_ok-text.ensures ∙ (rw c.deref-2.ensures.value at c.line_before.ensures) in
    rw (← c.self.view_is, text, c.give_up_front-2.ensures) (first_line _ _ _ _ c.self.invariant place found short)
