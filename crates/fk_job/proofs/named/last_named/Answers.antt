use Rattle.std.proofs.Common.{◌≡◌, ◌-◌, true, false, arith}
use Rattle.fk_job.specs.Members.{is_named}
use Rattle.fk_job.proofs.Finding.{none_from, some_at}
use Rattle.fk_job.proofs.named.last_named.Goals as goal

pub returns-then-eq : goal.returns-then-eq
returns-then-eq c =
    let here : is_named c.args.name.now c.index-members-at.result ≡ true
    = rw (← c.bytes.ensures, ← c.eq.ensures) c.if-eq.true in
    some_at (is_named c.args.name.now) c.args.members.now (c.members.at - 1) c.members.at c.index-members-at.result
    (omega arith) (omega arith) c.index-members-at.is c.members.invariant.1 here

pub members-preserved : goal.members-preserved
members-preserved c =
    let other : is_named c.args.name.now c.index-members-at.result ≡ false
    = rw (← c.bytes.ensures, ← c.eq.ensures) c.if-eq.false in (
      omega arith,
      none_from (is_named c.args.name.now) c.args.members.now (c.members.at - 1) c.members.at
          c.index-members-at.result (omega arith) (omega arith) c.index-members-at.is c.members.invariant.1 other,
    )
