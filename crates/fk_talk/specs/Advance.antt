-- How a talk goes on while its stream is read in pieces.
use Rattle.std.specs.Prelude.{◌≡◌, ◌⊎◌, ℕ, List, [], ◌++◌, Bool, true, None, Some}
use Rattle.fk_frame.specs.declared.line_reader.Line.{Line}
use Rattle.fk_frame.specs.Lines.{lines_of}
use Rattle.fk_model.specs.declared.gate.Gate.{Gate}
use Rattle.fk_model.specs.declared.item.Item.{Item}
use Rattle.fk_model.specs.Script.{AreItemsFrom, has_end, talk_from}
use Rattle.fk_talk.specs.declared.standing.Standing.{Standing}
use Rattle.fk_talk.specs.declared.standing.Standing.TheVariants.{Nobody, Somebody, Over}

-- what lines give to a talk that has come so far
abbrev pub AreDueFrom : Gate → Standing → List Line → List Item → Type 0
AreDueFrom gate Nobody lines items = AreItemsFrom gate None (talk_from gate None lines) items
AreDueFrom gate (Somebody wid) lines items =
    AreItemsFrom gate (Some wid) (talk_from gate (Some wid) lines) items
AreDueFrom gate Over lines items = items ≡ []

-- a talk that has come so far is over, or one of the lines ends it
abbrev pub ends_from : Gate → Standing → List Line → Bool
ends_from gate Nobody lines = has_end gate None lines
ends_from gate (Somebody wid) lines = has_end gate (Some wid) lines
ends_from gate Over lines = true

-- From one standing, with these bytes at hand, the talk gives these items and comes to another standing
-- with the rest at hand, in whatever way the stream goes on: whatever it gives from there on, it gives
-- behind them.
pub record Advances
    (gate : Gate) (from : Standing) (bytes : List ℕ) (items : List Item) (to : Standing) (rest : List ℕ)
    : Type 0 where
  pub gives : (more : List ℕ) (others : List Item) →
      AreDueFrom gate to (lines_of (rest ++ more)) others
      → AreDueFrom gate from (lines_of (bytes ++ more)) (items ++ others)
  pub comes : (more : List ℕ) →
      ends_from gate from (lines_of (bytes ++ more)) ≡ ends_from gate to (lines_of (rest ++ more))

-- no line is left to be answered: the talk is over, or the bytes at hand have none
abbrev pub IsIdle : Standing → List ℕ → Type 0
IsIdle standing bytes = (standing ≡ Over) ⊎ (lines_of bytes ≡ [])
