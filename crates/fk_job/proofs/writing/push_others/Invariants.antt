use Rattle.std.proofs.Common.{◌≡◌, ◌∷◌, ◌++◌, take}
use Rattle.std.specs.List.{flat_map}
use Rattle.std.specs.Str.{byte}
use Rattle.fk_json.specs.String.{spelling}
use Rattle.fk_job.proofs.writing.push_others.Given as goal

-- the strings so far
abbrev pub invariant-loop-text : goal.invariant-loop-text
invariant-loop-text l =
    l.out ≡ l.initial.out ++ flat_map (λ text. byte "," ∷ spelling text) (take l.text-index l.texts)
