use Rattle.std.proofs.Common.{◌≡◌, count_by, take}
use Rattle.fk_core.specs.Reserved.{is_add}
use Rattle.fk_core.proofs.reserving.first_add.Given as goal

-- none of the moves so far is a new row
abbrev pub invariant-looking : goal.invariant-looking
invariant-looking l = count_by is_add (take l.at l.moves.items) ≡ 0
