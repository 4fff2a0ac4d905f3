use Rattle.std.proofs.Common.{◌≡◌, Some, map, take}
use Rattle.std.specs.Prelude.{All}
use Rattle.serde_json.specs.View.{view}
use Rattle.fk_job.specs.Spellings.{IsText}
use Rattle.fk_model.specs.Filters.{strings}
use Rattle.fk_filter.proofs.texts.strings.Given as goal

-- the texts so far
abbrev pub invariant-loop-element : goal.invariant-loop-element
invariant-loop-element l =
    (strings (map view (take l.element-index l.elements)) ≡ Some l.texts) × All IsText l.texts
