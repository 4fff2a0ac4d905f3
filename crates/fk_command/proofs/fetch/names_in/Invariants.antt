use Rattle.std.proofs.Common.{◌≡◌, filter, map}
use Rattle.fk_model.specs.Payloads.{is_some_text}
use Rattle.fk_command.proofs.fetch.names_in.Given as goal

-- the names so far
abbrev pub invariant-loop-name : goal.invariant-loop-name
invariant-loop-name l = l.names ≡ filter is_some_text (map (λ name. name.now) l.yielded)
