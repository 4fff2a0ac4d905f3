-- How a pattern is held against a text, stretch by stretch: a stretch goes up to the next run.
use Rattle.std.specs.Prelude.{◌≡◌, ◌==◌, ◌<◌, ◌≤◌, ◌+◌, ◌↔◌, ℕ, List, [], ◌∷◌, length, Bool, true, false, Option, None, Some, IsTrue, ⊤}
use Rattle.fk_model.specs.Glob.{Part, run, one, itself, parts_of}
use Rattle.fk_filter.specs.declared.part.Cut.{Cut}
use Rattle.fk_filter.specs.declared.stretch.Left.{Left}
use Rattle.fk_filter.specs.declared.stretch.Stop.{Stop}
use Rattle.fk_filter.specs.declared.stretch.Stop.TheVariants as stop
use Rattle.fk_filter.specs.declared.stretch.Led.{Led}
use Rattle.fk_filter.specs.declared.stretch.Led.TheVariants as led
use Rattle.fk_filter.specs.declared.globbing.Search.{Search}
use Rattle.fk_filter.specs.declared.globbing.Search.TheVariants as search
use Rattle.fk_filter.specs.Parts.{meant}
use Rattle.fk_filter.specs.Match.{Match, MatchesEnd}

-- ---- one part

-- what a pattern begins with: this part, and less behind it
abbrev pub BeginsWith : List ℕ → Option Cut → Type 0
BeginsWith pattern None = pattern ≡ []
BeginsWith pattern (Some cut) =
    (parts_of pattern ≡ meant cut.part ∷ parts_of cut.behind.now)
    × (length cut.behind.now < length pattern)

-- the part stands for this one byte
abbrev pub takes : Part → ℕ → Bool
takes run byte = false
takes one byte = true
takes (itself wanted) byte = wanted == byte

-- ---- what they match

-- the parts match the text where the others match the rest of it, and where they match an end of the
-- text, the others match an end of the rest
pub record LeadsTo
    (parts : List Part) (text : List ℕ) (others : List Part) (rest : List ℕ) : Type 0 where
  pub here : Match parts text ↔ Match others rest
  pub later : MatchesEnd parts text → MatchesEnd others rest

-- what was found out of the parts and the text by holding a stretch against it
abbrev pub Stops : List Part → List ℕ → Stop → Type 0
Stops parts text (stop.Run left) =
    LeadsTo parts text (run ∷ parts_of left.pattern.now) left.text.now
Stops parts text stop.Whole = Match parts text
Stops parts text stop.Elsewhere = ¬ Match parts text
Stops parts text stop.Nowhere = ¬ MatchesEnd parts text

-- what was found out by holding one part against it
abbrev pub Shows : List Part → List ℕ → Led → Type 0
Shows parts text (led.On left) = LeadsTo parts text (parts_of left.pattern.now) left.text.now
Shows parts text (led.Stop stop) = Stops parts text stop

-- what was found out about the ends of the text
abbrev pub Seeks : List Part → List ℕ → Search → Type 0
Seeks parts text (search.On left) =
    MatchesEnd parts text ↔ MatchesEnd (parts_of left.pattern.now) left.text.now
Seeks parts text (search.Ends found) = IsTrue found ↔ MatchesEnd parts text

-- ---- how much is left

-- less of the pattern is left, and no more of the text
pub record IsLess (old new : Left) : Type 0 where
  pub pattern : length new.pattern.now < length old.pattern.now
  pub text : length new.text.now ≤ length old.text.now

abbrev pub StopShrinks : Left → Stop → Type 0
StopShrinks old (stop.Run new) = IsLess old new
StopShrinks old stop.Whole = ⊤
StopShrinks old stop.Elsewhere = ⊤
StopShrinks old stop.Nowhere = ⊤

abbrev pub Shrinks : Left → Led → Type 0
Shrinks old (led.On new) = IsLess old new
Shrinks old (led.Stop stop) = StopShrinks old stop

abbrev pub SeeksLess : Left → Search → Type 0
SeeksLess old (search.On new) =
    length new.pattern.now + length new.text.now < length old.pattern.now + length old.text.now
SeeksLess old (search.Ends found) = ⊤
