use Rattle.std.proofs.Common.{◌≡◌, map, take}
use Rattle.std.specs.Prelude.{All}
use Rattle.std.specs.List.{filter_map}
use Rattle.serde_json.specs.Find.{as_str}
use Rattle.serde_json.specs.View.{view}
use Rattle.fk_job.specs.Spellings.{IsText}
use Rattle.fk_command.proofs.fail.strings_in.Given as goal

-- the strings so far
abbrev pub invariant-loop-element : goal.invariant-loop-element
invariant-loop-element l =
    (l.texts ≡ filter_map as_str (map view (take l.element-index l.elements))) × All IsText l.texts
