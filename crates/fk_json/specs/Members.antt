-- The members of an object text and the elements of an array text, each at its places.
use Rattle.std.specs.Prelude.{ℕ, ◌≤◌, List, length, slice_range}
use Rattle.fk_json.specs.String.{IsString}
use Rattle.fk_json.specs.Json.{IsValue}
use Rattle.fk_json.specs.declared.member.Member.{Member}
use Rattle.fk_json.specs.declared.span.Span.{Span}

-- the levels of a value in a text of at most 127
abbrev pub inner_levels : ℕ
inner_levels = 126

-- a member of a text: its name with the quotes and its value, of at most so many levels, stand at
-- their places
pub record IsMemberIn (levels : ℕ) (text : List ℕ) (member : Member) : Type 0 where
  pub name_ordered : member.name_from ≤ member.name_to
  pub name_within : member.name_to ≤ length text
  pub named : IsString (slice_range text member.name_from member.name_to) member.name
  pub ordered : member.from ≤ member.to
  pub within : member.to ≤ length text
  pub valued : IsValue levels (slice_range text member.from member.to)

-- an element of a text: a value of at most so many levels stands at its place
pub record IsElementIn (levels : ℕ) (text : List ℕ) (element : Span) : Type 0 where
  pub ordered : element.from ≤ element.to
  pub within : element.to ≤ length text
  pub valued : IsValue levels (slice_range text element.from element.to)
