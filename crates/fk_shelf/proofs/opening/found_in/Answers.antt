use Rattle.std.proofs.Common.{◌≤◌, arith, length}
use Rattle.fk_shelf.proofs.Found.{head_long}
use Rattle.fk_shelf.proofs.opening.found_in.Goals as goal

-- a header that is right has its 34 bytes, so the file has as many
pub returns-in-Ok-clause-ok : goal.returns-in-Ok-clause-ok
returns-in-Ok-clause-ok c =
    let long : 34 ≤ length c.args.head.now = head_long _ _ c.in-Ok.ensures.ok in
    record { right = c.in-Ok.ensures.ok; whole = omega (arith, long) }
