use Rattle.std.proofs.Common.{◌≡◌, take}
use Rattle.fk_json.proofs.texts.Texts.copied.Given as goal

-- the texts so far
abbrev pub invariant-loop-text : goal.invariant-loop-text
invariant-loop-text l = l.copy ≡ take l.text-index l.text-items
