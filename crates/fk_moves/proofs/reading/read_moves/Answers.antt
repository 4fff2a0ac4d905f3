use Rattle.std.proofs.Common.{◌≡◌, ◌<◌, [], length, sym, ◌∙◌, arith}
use Rattle.fk_moves.specs.declared.fault.MovesFault.TheVariants.{BadMoves}
use Rattle.std.proofs.lemmas.List.{nil_from_length}
use Rattle.std.proofs.lemmas.Bool.Decides.{nat_tests}
use Rattle.fk_moves.proofs.ListLaws.{one_list, read_all, read_less, read_more, slice_bytes, stopped_only, stopped_place}
use Rattle.fk_moves.proofs.reading.read_moves.Goals as goal

pub loop-rest-smaller : goal.loop-rest-smaller
loop-rest-smaller c =
    read_less c.args.bytes.now c.loop-rest.moves.items c.loop-rest.rest.now c.in-Ok.step c.in-Ok.behind.now
    (slice_bytes c.args.bytes.now (λ i. omega (arith, c.type_inv.bytes i))) c.loop-rest.invariant c.in-Ok.ensures

pub loop-rest-preserved : goal.loop-rest-preserved
loop-rest-preserved c =
    rw c.in_ok-push-in-Ok.ensures.ok (read_more c.args.bytes.now c.loop-rest.moves.items c.loop-rest.rest.now c.in-Ok.step
    c.in-Ok.behind.now (slice_bytes c.args.bytes.now (λ i. omega (arith, c.type_inv.bytes i))) c.loop-rest.invariant c.in-Ok.ensures)

pub returns-in-Err-clause-only : goal.returns-in-Err-clause-only
returns-in-Err-clause-only c = λ others spelled.
    let some : 0 < length c.loop-rest.rest.now = grind (arith, nat_tests) in
    rw c.fault_of.ensures (stopped_only c.in-Err.stop c.args.bytes.now c.loop-rest.moves.items c.loop-rest.rest.now others
    c.loop-rest.invariant some c.in-Err.ensures spelled)

pub returns-in-Err-clause-place : goal.returns-in-Err-clause-place
returns-in-Err-clause-place c = λ at is.
    let same : c.fault_of.result ≡ BadMoves at = cc in
    let some : 0 < length c.loop-rest.rest.now = grind (arith, nat_tests) in
    stopped_place c.in-Err.stop c.args.bytes.now c.loop-rest.moves.items c.loop-rest.rest.now at
    (slice_bytes c.args.bytes.now (λ i. omega (arith, c.type_inv.bytes i))) c.loop-rest.invariant some c.in-Err.ensures
    (sym c.fault_of.ensures ∙ same)

pub returns-clause-only : goal.returns-clause-only
returns-clause-only c = λ moves spelled.
    let none : c.loop-rest.rest.now ≡ [] = nil_from_length c.loop-rest.rest.now (grind (arith, nat_tests)) in
    one_list c.args.bytes.now moves c.loop-rest.moves.items spelled
    (read_all c.args.bytes.now c.loop-rest.moves.items c.loop-rest.rest.now c.loop-rest.invariant none)
