-- The members of a job that are handed on, one piece behind another.
use Rattle.std.specs.Prelude.{◌≡◌, ℕ, ◌<◌, ◌≤◌, ◌-◌, slice_range, ◌++◌, not, ◌&&◌, if◌then◌else◌, Bool, List, [], ◌∷◌, codes}
use Rattle.std.specs.List.{list_any}
use Rattle.fk_json.specs.declared.member.Member.{Member}
use Rattle.fk_job.specs.Members.{is_handed_on, is_named, sent_member}

-- whether each member counts: no later one has its name
abbrev pub counting_flags : List Member → List Bool
counting_flags [] = []
counting_flags (member ∷ members) =
    not (list_any (is_named member.name) members) ∷ counting_flags members

-- a piece behind a text, with a comma between them where the text has a byte
abbrev pub joined : List ℕ → List ℕ → List ℕ
joined [] piece = piece
joined (first ∷ text) piece = first ∷ text ++ codes "," ++ piece

-- the text with a member behind it, where it counts and is handed on
abbrev pub with_counting : List ℕ → Bool → List ℕ → Member → List ℕ
with_counting text counts body member =
    if counts && is_handed_on text member then joined body (sent_member text member) else body

-- a member is sent as it stands in the text, from its name to the end of its value
pub record IsCloseIn (text : List ℕ) (member : Member) : Type 0 where
  pub ordered : member.name_from ≤ member.to
  pub whole : slice_range text member.name_from member.to ≡ sent_member text member

-- a comma stands right before a member
pub record IsBehindComma (text : List ℕ) (member : Member) : Type 0 where
  pub inside : 0 < member.name_from
  pub whole : slice_range text (member.name_from - 1) member.to
      ≡ codes "," ++ slice_range text member.name_from member.to
