use Rattle.std.proofs.Common.{◌≡◌, ◌≢◌, [], length, codes, ap, sym, ◌∙◌}
use Rattle.std.proofs.lemmas.Bool.{eqb-true, eqb-false}
use Rattle.fk_frame.proofs.Fronted.{cut_begun, not_begun, not_nil}
use Rattle.fk_frame.proofs.Found.{cut_number}
use Rattle.fk_frame.proofs.Unread.{broken, bad_number}
use Rattle.fk_frame.proofs.front.first_bulk.Goals as goal
use Rattle.fk_frame.proofs.front.first_bulk.Goals.{else-is_empty-via-then-is_empty+else-begins_nil, else-is_empty-via-else-is_empty}

pub returns-then-begins_nil : goal.returns-then-begins_nil
returns-then-begins_nil c =
    cut_begun c.args.number.now c.args.behind.now (eqb-true _ _ (sym c.is_empty.ensures ∙ c.if-is_empty.true))
    (sym c.begins_nil.ensures ∙ c.if-begins_nil.true)

pub returns-in-Some-2 : goal.returns-in-Some-2
returns-in-Some-2 c =
    let ended = rw c.if-closed.false at c.requires.ended in
    cut_number c.in-Some.count c.args.number.now c.args.behind.now c.in-Some.ensures.fits c.in-Some.ensures.same ended

pub returns-in-None : goal.returns-in-None
returns-in-None c =
    let other = not_nil c.args.number.now (sym c.is_nil.ensures ∙ c.if-is_nil.false) in
    let short : c.args.behind.now ≡ [] → (c.args.number.now ≢ []) × (c.args.number.now ≢ codes "-") =
    λ none.
    elim c.else-is_empty.branch [
      | else-is_empty-via-then-is_empty+else-begins_nil w ↦ not_begun _ (sym w.begins_nil.ensures ∙ w.if-begins_nil.false)
      | else-is_empty-via-else-is_empty w ↦ absurd (eqb-false _ _ (sym c.is_empty.ensures ∙ w.if-is_empty.false) (ap length none))
    ] in
    broken _ (bad_number c.args.number.now c.args.behind.now c.args.closed c.requires.line c.requires.ended c.in-None.ensures other short)
