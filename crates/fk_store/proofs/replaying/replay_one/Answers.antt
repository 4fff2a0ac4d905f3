use Rattle.std.proofs.Common.{◌≡◌, ◌∙◌, ap, arith, Err, Ok, ◌<◌, ◌^◌}
use Rattle.fk_journal.specs.declared.fault.Damage.{Damage}
use Rattle.fk_journal.specs.declared.fault.OpenFault.TheVariants.{Damaged}
use Rattle.fk_journal.specs.declared.fault.Replay.TheVariants.{Moves}
use Rattle.fk_store.proofs.Coming.{come_on, less_left, not_done, unfit}
use Rattle.fk_store.proofs.UnderWay.{handed_on}
use Rattle.fk_store.proofs.replaying.replay_one.Goals as goal

pub returns-in_err-make_list-in-Moves-clause-damaged :
    goal.returns-in_err-make_list-in-Moves-clause-damaged
returns-in_err-make_list-in-Moves-clause-damaged g c = λ tells damage is.
    let moves : c.replay.result ≡ Ok Moves = c.in_ok-replay.was ∙ ap Ok c.in-Moves.is in
    let told : c.make_list.result ≡ Err (Damaged damage) =
    c.in_err-make_list-in-Moves.was ∙ ap Err (handed_on _ _ _ c.from_residual-in_err-make_list-in-Moves.ensures.1 is) in
    unfit _ _ c.replay.new.into.items _ c.args.shelf.now c.replay.new.self damage c.requires.come
    (record {
      snapshot = λ n some. c.replay.ensures.snapshot n some moves;
      piece = λ none. c.replay.ensures.piece none moves;
      live = c.replay.ensures.file;
      free = c.replay.ensures.free;
    })
    (c.make_list.ensures.place damage told ∙ c.place.ensures)
    (rw c.bytes.ensures at (c.make_list.ensures.unfit damage told)) tells

pub returns-in_ok-make_list-in-Moves-clause-come :
    goal.returns-in_ok-make_list-in-Moves-clause-come
returns-in_ok-make_list-in-Moves-clause-come g c =
    let moves : c.replay.result ≡ Ok Moves = c.in_ok-replay.was ∙ ap Ok c.in-Moves.is in
    rw (c.replay.ensures.reads.tells, c.replay.ensures.reads.same)
    (come_on _ _ c.replay.new.into.items _ _ c.args.shelf.now c.replay.new.self c.requires.come
    (record {
      snapshot = λ n some. c.replay.ensures.snapshot n some moves;
      piece = λ none. c.replay.ensures.piece none moves;
      live = c.replay.ensures.file;
      free = c.replay.ensures.free;
    })
    (rw c.bytes.ensures at c.in_ok-make_list-in-Moves.ensures.ok))

pub returns-in_ok-make_list-in-Moves-clause-more :
    goal.returns-in_ok-make_list-in-Moves-clause-more
returns-in_ok-make_list-in-Moves-clause-more g c = λ _.
    let moves : c.replay.result ≡ Ok Moves = c.in_ok-replay.was ∙ ap Ok c.in-Moves.is in
    let at : c.place.result.at ≡ c.replay.new.self.at = ap (λ (damage : Damage). damage.at) c.place.ensures in
    let small : c.replay.new.self.at < 2 ^ 64 = omega (arith, at) in
    less_left _ _ c.replay.new.into.items c.args.shelf.now c.replay.new.self
    (record {
      snapshot = λ n some. c.replay.ensures.snapshot n some moves;
      piece = λ none. c.replay.ensures.piece none moves;
      live = c.replay.ensures.file;
      free = c.replay.ensures.free;
    })
    small

pub returns-in_ok-make_list-in-Moves-clause-begun :
    goal.returns-in_ok-make_list-in-Moves-clause-begun
returns-in_ok-make_list-in-Moves-clause-begun g c = λ _.
    let moves : c.replay.result ≡ Ok Moves = c.in_ok-replay.was ∙ ap Ok c.in-Moves.is in
    not_done _ _ c.replay.new.into.items c.args.shelf.now c.replay.new.self
    (record {
      snapshot = λ n some. c.replay.ensures.snapshot n some moves;
      piece = λ none. c.replay.ensures.piece none moves;
      live = c.replay.ensures.file;
      free = c.replay.ensures.free;
    })
    ∙ c.requires.begun
