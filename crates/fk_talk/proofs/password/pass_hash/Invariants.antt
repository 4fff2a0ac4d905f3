use Rattle.std.proofs.Common.{◌≡◌, ◌-◌, ◌++◌}
use Rattle.fk_model.specs.Handshake.{hashed}
use Rattle.fk_talk.proofs.password.pass_hash.Given as goal

-- the rounds that are left make of the hash what all of them make of the password
abbrev pub invariant-rounds : goal.invariant-rounds
invariant-rounds l = hashed (l.rounds - l._round) l.hash ≡ hashed l.rounds (l.password ++ l.salt)
