-- The body of a job is no longer than the job's text.
use Rattle.std.proofs.Common.{inl, inr, ℕ, zero, suc, ◌+◌, ◌-◌, ◌≤◌, Bool, true, false, if◌then◌else◌, List, [], ◌∷◌, ◌++◌, length, map, drop, filter, slice_range, codes, ap, arith}
use Rattle.std.specs.Prelude.{sum_by}
use Rattle.std.specs.List.{join_with_byte, list_any}
use Rattle.std.specs.Str.{byte}
use Rattle.std.proofs.lemmas.List.{length-append, length-take}
use Rattle.std.proofs.lemmas.List.Sums.{sum_by-cons}
use Rattle.fk_json.specs.declared.member.Member.{Member}
use Rattle.fk_json.specs.Json.{AreItems, AreJoined, IsMember, IsObjectText, IsValue}
use Rattle.fk_job.specs.Members.{body_of, counting_members, is_handed_on, is_named, sent_member}

-- ---- the room that members take in a text

-- the bytes of a name, a colon and a value
abbrev size : Member → ℕ
size member = member.name_to - member.name_from + 1 + (member.to - member.from)

-- the same with a comma
abbrev size_behind : Member → ℕ
size_behind member = size member + 1

range_short : (text : List ℕ) (from to : ℕ) → length (slice_range text from to) ≤ to - from
range_short text from to = omega (arith, length-take (to - from) (drop from text))

sent_short : (text : List ℕ) (member : Member) → length (sent_member text member) ≤ size member
sent_short text member =
    omega (
      arith,
      length-append (slice_range text member.name_from member.name_to ++ codes ":")
          (slice_range text member.from member.to),
      length-append (slice_range text member.name_from member.name_to) (codes ":"),
      range_short text member.name_from member.name_to,
      range_short text member.from member.to,
    )

member_fits : (levels at : ℕ) (text : List ℕ) (member : Member) → IsMember (IsValue levels) at text member
    → size member ≤ length text
member_fits levels at text member is =
    omega (
      arith,
      is.to,
      is.valued.to,
      ap length is.whole,
      ap length is.valued.whole,
      length-append (is.before ++ is.name ++ is.after ++ codes ":") is.rest,
      length-append (is.before ++ is.name ++ is.after) (codes ":"),
      length-append (is.before ++ is.name) is.after,
      length-append is.before is.name,
      length-append (is.valued.before ++ is.valued.value) is.valued.after,
      length-append is.valued.before is.valued.value,
    )

joined_fit : (levels at : ℕ) (text : List ℕ) (members : List Member)
    → AreJoined (IsMember (IsValue levels)) at text members
    → sum_by size_behind members ≤ length text + 1
joined_fit levels at text [] are = absurd are
joined_fit levels at text (member ∷ []) is = omega (arith, member_fits levels at text member is)
joined_fit levels at text (member ∷ next ∷ members) (piece, rest, is, are, whole) =
    omega (
      arith,
      sum_by-cons size_behind member (next ∷ members),
      member_fits levels at piece member is,
      joined_fit levels (at + length piece + 1) rest (next ∷ members) are,
      ap length whole,
      length-append (piece ++ codes ",") rest,
      length-append piece (codes ","),
    )

items_fit : (levels at : ℕ) (text : List ℕ) (members : List Member)
    → AreItems (IsMember (IsValue levels)) at text members
    → sum_by size_behind members ≤ length text + 1
items_fit levels at text [] are = omega arith
items_fit levels at text (member ∷ members) (inl none) = absurd (cc)
items_fit levels at text (member ∷ members) (inr are) = joined_fit levels at text (member ∷ members) are

-- ---- members that are left out take no room

counting_step : (f : Member → ℕ) (member : Member) (members others : List Member) (later : Bool)
    → sum_by f others ≤ sum_by f members
    → sum_by f (if later then others else member ∷ others) ≤ sum_by f (member ∷ members)
counting_step f member members others true fewer = omega (arith, fewer, sum_by-cons f member members)
counting_step f member members others false fewer =
    omega (arith, fewer, sum_by-cons f member members, sum_by-cons f member others)

counting_fewer : (f : Member → ℕ) (members : List Member)
    → sum_by f (counting_members members) ≤ sum_by f members
counting_fewer f [] = omega arith
counting_fewer f (member ∷ members) =
    counting_step f member members (counting_members members) (list_any (is_named member.name) members)
    (counting_fewer f members)

filter_step : (f : Member → ℕ) (member : Member) (members others : List Member) (passes : Bool)
    → sum_by f others ≤ sum_by f members
    → sum_by f (if passes then member ∷ others else others) ≤ sum_by f (member ∷ members)
filter_step f member members others true fewer =
    omega (arith, fewer, sum_by-cons f member members, sum_by-cons f member others)
filter_step f member members others false fewer = omega (arith, fewer, sum_by-cons f member members)

filter_fewer : (f : Member → ℕ) (test : Member → Bool) (members : List Member)
    → sum_by f (filter test members) ≤ sum_by f members
filter_fewer f test [] = omega arith
filter_fewer f test (member ∷ members) =
    filter_step f member members (filter test members) (test member) (filter_fewer f test members)

-- ---- the body

sent_joined : (text : List ℕ) (members : List Member)
    → length (join_with_byte (byte ",") (map (sent_member text) members)) ≤ sum_by size_behind members - 1
sent_joined text [] = omega arith
sent_joined text (member ∷ []) = omega (arith, sent_short text member)
sent_joined text (member ∷ next ∷ members) =
    omega (
      arith,
      sent_short text member,
      sent_joined text (next ∷ members),
      sum_by-cons size_behind member (next ∷ members),
      sum_by-cons size_behind next members,
      length-append (sent_member text member)
          (byte "," ∷ join_with_byte (byte ",") (map (sent_member text) (next ∷ members))),
    )

body_fits : (text : List ℕ) (members : List Member) (n : ℕ) → sum_by size_behind members ≤ n + 1
    → length (body_of text members) ≤ n
body_fits text members n fits =
    omega (
      arith,
      fits,
      sent_joined text (filter (is_handed_on text) (counting_members members)),
      filter_fewer size_behind (is_handed_on text) (counting_members members),
      counting_fewer size_behind members,
    )

pub body_shorter : (levels : ℕ) (text : List ℕ) (members : List Member) → IsObjectText levels text members
    → length (body_of text members) ≤ length text
body_shorter zero text members is = absurd is
body_shorter (suc levels) text members is =
    let (inner, items, part) = is.shaped in
    let fits = body_fits text members (length inner)
    (items_fit levels (length is.before + 1) inner members items) in
    omega (
      arith,
      fits,
      ap length is.whole,
      ap length part,
      length-append (is.before ++ is.part) is.after,
      length-append is.before is.part,
      length-append (codes "{" ++ inner) (codes "}"),
      length-append (codes "{") inner,
    )
