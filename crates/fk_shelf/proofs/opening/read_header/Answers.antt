use Rattle.std.proofs.Common.{refl}
use Rattle.fk_shelf.proofs.Found.{found_read, damage_read}
use Rattle.fk_shelf.proofs.opening.read_header.Goals as goal

pub returns-clause-ok : goal.returns-clause-ok
returns-clause-ok g c =
    found_read _ _ _ _ _ _ _ _ c.len.ensures.told c.len.ensures.same c.in_ok-len.ensures.ok c.min-count.ensures refl
    c.in_ok-read_at.ensures.ok c.found_in.result c.found_in.ensures.ok

pub returns-clause-damaged : goal.returns-clause-damaged
returns-clause-damaged g c = λ tells damage is. let d = c.found_in.ensures.damaged damage is in (
  d.0,
  damage_read _ _ _ _ _ _ _ _ c.len.ensures.told c.len.ensures.same c.in_ok-len.ensures.ok c.min-count.ensures refl
      c.in_ok-read_at.ensures.ok _ d.1 tells,
)
