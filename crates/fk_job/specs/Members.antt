-- The members of a job's text by name, and those that are handed on to the worker.
use Rattle.std.specs.Prelude.{ℕ, ◌&&◌, not, Bool, if◌then◌else◌, List, [], ◌∷◌, ◌++◌, Option, None, Some, codes, map, filter, find, reverse, slice_range}
use Rattle.std.specs.List.{join_with_byte, list_any}
use Rattle.std.specs.Option.{option_map}
use Rattle.std.specs.Str.{byte, bytes_eq}
use Rattle.fk_json.specs.declared.member.Member.{Member}

-- the member's decoded name is this
abbrev pub is_named : List ℕ → Member → Bool
is_named name member = bytes_eq member.name name

-- the value of a member, as it was sent
abbrev pub sent_value : List ℕ → Member → List ℕ
sent_value text member = slice_range text member.from member.to

-- the value of the last member of that name, which is the one that counts
abbrev pub value_of : List ℕ → List Member → List ℕ → Option (List ℕ)
value_of text members name = option_map (sent_value text) (find (is_named name) (reverse members))

-- null counts as absent
abbrev pub unless_null : Option (List ℕ) → Option (List ℕ)
unless_null None = None
unless_null (Some value) = if bytes_eq value (codes "null") then None else Some value

-- the value of the last member of that name, unless it is null
abbrev pub given_value : List ℕ → List Member → List ℕ → Option (List ℕ)
given_value text members name = unless_null (value_of text members name)

-- the members that count, in order: those that no later member of their name follows
abbrev pub counting_members : List Member → List Member
counting_members [] = []
counting_members (member ∷ members) =
    if list_any (is_named member.name) members
    then counting_members members
    else member ∷ counting_members members

-- what the server writes itself isn't handed on
abbrev pub is_handed_on : List ℕ → Member → Bool
is_handed_on text member =
    not (is_named (codes "queue") member) && not (is_named (codes "enqueued_at") member)
    && not (is_named (codes "failure") member)
    && not (is_named (codes "created_at") member
    && bytes_eq (sent_value text member) (codes "null"))

-- a member as it was sent, without the white space around its colon
abbrev pub sent_member : List ℕ → Member → List ℕ
sent_member text member =
    slice_range text member.name_from member.name_to ++ codes ":" ++ sent_value text member

-- the members that count and are handed on, with commas between them
abbrev pub body_of : List ℕ → List Member → List ℕ
body_of text members =
    join_with_byte (byte ",")
    (map (sent_member text) (filter (is_handed_on text) (counting_members members)))
