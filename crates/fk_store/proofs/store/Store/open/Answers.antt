use Rattle.std.proofs.Common.{◌∙◌, ap, arith, subst, sym, Err, IsTrue, List, ℕ}
use Rattle.fk_lives.proofs.Roads.{goes_nowhere}
use Rattle.fk_shelf.specs.Opening.{IsOpened}
use Rattle.fk_store.proofs.Ends.{begun, between_turns, first_damage, goes_reading, none_owed, opening_damage, owed_for_none, sound_whole, told_whole}
use Rattle.fk_store.proofs.store.Store.open.Goals as goal

-- nothing was called
pub returns-in_default-clause-crash : goal.returns-in_default-clause-crash
returns-in_default-clause-crash g c = λ kept other holds. goes_nowhere _ _ holds

pub returns-in-Err-clause-damaged : goal.returns-in-Err-clause-damaged
returns-in-Err-clause-damaged g c = λ told_a told_b damage is.
    let said = c.in-Err.ensures.damaged told_a told_b damage is in
    (opening_damage _ _ damage said.0, said.1, said.2)

pub replay_all-requires-clause-come : goal.replay_all-requires-clause-come
replay_all-requires-clause-come g c =
    let begins = c.in-Ok-open.ensures.begins in
    begun _ _ begins.0 _ _ _ begins.1 c.in-Ok-open.ensures.told.0 begins.2 c.new-tables.ensures

pub invariant_of-result : goal.invariant_of-result
invariant_of-result g c =
    let come = c.in-Ok-replay_all.ensures.come in (
      c.in-Ok-replay_all.ensures.done,
      between_turns _ _ come.well c.new-in-Ok-replay_all.ensures,
      none_owed _ come.free,
      (λ tells. (come.later c.in-Ok-replay_all.ensures.behind tells, owed_for_none _ _ _ come.free)),
      omega (arith, c.in-Ok.ensures.moves),
      omega (arith, c.in-Ok.ensures.piece),
    )

pub returns-in-Ok-replay_all-clause-stands : goal.returns-in-Ok-replay_all-clause-stands
returns-in-Ok-replay_all-clause-stands g c = λ told_a told_b.
    let opened = c.in-Ok-open.ensures.opened told_a told_b in
    let tells = subst IsTrue (sym (c.replay_all.ensures.reads.tells ∙ c.in-Ok-open.ensures.told.0)) told_a in
    let told = told_whole _ _ _ _ _ c.replay_all.new.shelf tells c.in-Ok-replay_all.ensures.come
    c.in-Ok-replay_all.ensures.behind (c.in-Ok-replay_all.ensures.end tells) opened.0
    (subst (λ (file : List ℕ). IsOpened (g.D.Disk.content c.args.a) file) (sym c.replay_all.ensures.reads.same)
    opened.2) in
    (told.stands, told.numbers)

pub returns-in-Ok-replay_all-clause-sound : goal.returns-in-Ok-replay_all-clause-sound
returns-in-Ok-replay_all-clause-sound g c =
    sound_whole _ _ _ c.replay_all.new.shelf _ _
    (λ image is. g.met.D.Disk.has_told c.replay_all.new.shelf.live.disk _ image is) c.in-Ok-replay_all.ensures.come
    c.in-Ok-replay_all.ensures.behind (c.stands.ensures.rest c.in-Ok-replay_all.ensures.done) c.stands.ensures.blank

pub returns-in-Ok-replay_all-clause-crash : goal.returns-in-Ok-replay_all-clause-crash
returns-in-Ok-replay_all-clause-crash g c = λ kept other holds.
    rw c.replay_all.ensures.other
    (goes_reading _ _ _ _ _ _ _ _ _ _ _ _ (c.in-Ok-open.ensures.crash kept other holds) c.replay_all.ensures.reads)

pub returns-in-Err-replay_all-clause-damaged : goal.returns-in-Err-replay_all-clause-damaged
returns-in-Err-replay_all-clause-damaged g c = λ told_a told_b damage is.
    let opened = c.in-Ok-open.ensures.opened told_a told_b in
    let tells = subst IsTrue (sym c.in-Ok-open.ensures.told.0) told_a in
    let first = first_damage _ _ _ damage opened.0 opened.2
    (c.replay_all.ensures.damaged tells damage (c.in-Err-replay_all.is ∙ ap Err is)) in (
      first.0,
      ap g.D.Disk.content c.close-a.ensures.a ∙ c.replay_all.ensures.reads.same ∙ first.1,
      ap g.D.Disk.content (c.close-a.ensures.b ∙ c.replay_all.ensures.other) ∙ opened.1,
    )

pub returns-in-Err-replay_all-clause-crash : goal.returns-in-Err-replay_all-clause-crash
returns-in-Err-replay_all-clause-crash g c = λ kept other holds.
    rw (c.close-a.ensures.a, c.close-a.ensures.b, c.replay_all.ensures.other)
    (goes_reading _ _ _ _ _ _ _ _ _ _ _ _ (c.in-Ok-open.ensures.crash kept other holds) c.replay_all.ensures.reads)
