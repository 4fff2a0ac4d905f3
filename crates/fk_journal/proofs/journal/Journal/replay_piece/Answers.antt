use Rattle.std.proofs.Common.{◌∙◌, ◌+◌, ap, arith, subst, sym, take, drop, IsTrue}
use Rattle.fk_journal.proofs.Due.{too_short, wrong_head, piece_here, front_on}
use Rattle.fk_journal.proofs.journal.Journal.replay_piece.Goals as goal

pub returns-then-left-lt-HEAD-clause-damaged : goal.returns-then-left-lt-HEAD-clause-damaged
returns-then-left-lt-HEAD-clause-damaged g c = λ tells damage told.
    too_short _ _ _ _ (c.requires.gate tells) c.if-left-lt-HEAD.true

pub returns-then-is_wrong-clause-damaged : goal.returns-then-is_wrong-clause-damaged
returns-then-is_wrong-clause-damaged g c = rw (← c.self.view_is) (λ tells damage told.
    wrong_head c.self.inside.number c.self.inside.place c.args.left _ c.in_ok-head.head
    ((rw (← c.self.view_is) at c.requires.gate) tells) (omega (arith, c.self.invariant))
    c.in_ok-head.ensures.fits c.in_ok-head.ensures.length (c.in_ok-head.ensures.ok tells)
    (c.is_wrong.ensures.wrong c.if-is_wrong.true))

pub returns-clause-moves : goal.returns-clause-moves
returns-clause-moves g c = rw (← c.self.view_is) (λ tells.
    piece_here c.self.inside.number c.self.inside.place c.args.left _ _ c.in_ok-head.head
    ((rw (← c.self.view_is) at c.requires.gate) tells) (c.in_ok-head.ensures.ok tells)
    (c.is_wrong.ensures.number c.if-is_wrong.false) (c.is_wrong.ensures.within c.if-is_wrong.false)
    c.in_ok-head.ensures.length (c.is_wrong.ensures.length c.if-is_wrong.false)
    (c.in_ok-copy_into.ensures.ok (subst IsTrue (sym c.head_at.ensures.reads.tells) tells)
    ∙ ap (λ xs. take c.in_ok-head.head.length (drop (c.self.inside.place + 1 + 16) xs)) c.head_at.ensures.reads.same)
    c.in_ok-copy_into.ensures.count)

pub returns-clause-front : goal.returns-clause-front
returns-clause-front g c = rw (← c.self.view_is) (λ tells.
    let begins = (rw (← c.self.view_is) at (returns-clause-moves g c)) tells in
    let gate = (rw (← c.self.view_is) at c.requires.gate) tells in
    ap (take (c.self.inside.place + 1 + 16 + c.in_ok-head.head.length))
    (c.copy_into.ensures.reads.same ∙ c.head_at.ensures.reads.same)
    ∙ front_on c.self.inside.number c.self.inside.place c.in_ok-head.head.length _ _ (omega (arith, gate.0))
    c.in_ok-copy_into.ensures.count begins)
