-- A string or an array that a job has to have is there, or it isn't; and a string is one.
use Rattle.std.proofs.Common.{◌≡◌, ◌≢◌, ◌⊎◌, inl, inr, ℕ, zero, suc, ◌≤◌, Bool, true, false, cond, List, [], ◌∷◌, ◌++◌, length, reverse, find, Option, None, Some, MatchOption, IfSome, option_map, sym, subst}
use Rattle.std.specs.List.{AllByRecursion}
use Rattle.std.proofs.lemmas.Bool.{cases_eq}
use Rattle.std.proofs.lemmas.List.{reverse-append}
use Rattle.fk_json.specs.String.{IsString}
use Rattle.fk_json.specs.Json.{IsObjectText, IsValue}
use Rattle.fk_json.specs.Members.{IsMemberIn}
use Rattle.fk_json.specs.declared.member.Member.{Member}
use Rattle.fk_json.proofs.Decided.{string_decided}
use Rattle.fk_json.proofs.MemberPlaces.{members_in}
use Rattle.fk_json.proofs.Parts.{head_of}
use Rattle.fk_json.proofs.Strings.{one_value}
use Rattle.fk_json.proofs.Values.{value_array, value_empty, value_flat}
use Rattle.fk_time.proofs.Decided.{Decision, most_decided}
use Rattle.fk_job.specs.Members.{is_named, sent_value, value_of}
use Rattle.fk_job.specs.Fields.{IsArrayValue, HasArray, HasString}

-- ---- strings

abbrev StringIn : Option (List ℕ) → List ℕ → Type 0
StringIn o decoded = MatchOption o ⊥ (λ value. IsString value decoded)

string_in : (o : Option (List ℕ)) → Decision ((decoded : List ℕ) × StringIn o decoded)
string_in None = inr (λ h. h.1)
string_in (Some value) = elim (string_decided value) [ inl is ↦ inl is | inr none ↦ inr (λ h. none h.0 h.1) ]

pub string_there : (text : List ℕ) (members : List Member) (name : List ℕ)
    → Decision ((decoded : List ℕ) × HasString text members name decoded)
string_there text members name = string_in (value_of text members name)

one_string_in : (o : Option (List ℕ)) (a b : List ℕ) → StringIn o a → StringIn o b → a ≡ b
one_string_in None a b h k = absurd h
one_string_in (Some value) a b h k = one_value value a b h k

pub string_one : (text : List ℕ) (members : List Member) (name a b : List ℕ)
    → HasString text members name a → HasString text members name b → a ≡ b
string_one text members name a b = one_string_in (value_of text members name) a b

-- a string of at least so many bytes
abbrev LongString : List ℕ → List Member → List ℕ → ℕ → Type 0
LongString text members name least =
    (decoded : List ℕ) × HasString text members name decoded × (least ≤ length decoded)

by_length : (text : List ℕ) (members : List Member) (name decoded : List ℕ) (least : ℕ)
    → HasString text members name decoded → Decision (least ≤ length decoded)
    → Decision (LongString text members name least)
by_length text members name decoded least is (inl long) = inl (decoded, is, long)
by_length text members name decoded least is (inr short) =
    inr (λ (other, also, long). short (subst (λ l. least ≤ length l)
    (string_one text members name other decoded also is) long))

by_string : (text : List ℕ) (members : List Member) (name : List ℕ) (least : ℕ)
    → Decision ((decoded : List ℕ) × HasString text members name decoded)
    → Decision (LongString text members name least)
by_string text members name least (inl (decoded, is)) =
    by_length text members name decoded least is (most_decided least (length decoded))
by_string text members name least (inr none) = inr (λ (decoded, is, long). none (decoded, is))

pub long_string : (text : List ℕ) (members : List Member) (name : List ℕ) (least : ℕ)
    → Decision ((decoded : List ℕ) × HasString text members name decoded × (least ≤ length decoded))
long_string text members name least = by_string text members name least (string_there text members name)

-- ---- arrays

all_append : {X : Type 0} (P : X → Type 0) (xs ys : List X) → AllByRecursion P xs → AllByRecursion P ys
    → AllByRecursion P (xs ++ ys)
all_append P [] ys h k = k
all_append P (x ∷ xs) ys h k = (h.0, all_append P xs ys h.1 k)

all_reverse : {X : Type 0} (P : X → Type 0) (xs : List X) → AllByRecursion P xs
    → AllByRecursion P (reverse xs)
all_reverse P [] h = tt
all_reverse P (x ∷ xs) h =
    subst (AllByRecursion P) (sym (reverse-append (x ∷ []) xs))
    (all_append P (reverse xs) (x ∷ []) (all_reverse P xs h.1) (h.0, tt))

found_first : {X : Type 0} (P : X → Type 0) (test : Bool) (x : X) (o : Option X) → P x → IfSome o P
    → IfSome (cond test (Some x) o) P
found_first P true x o h k = h
found_first P false x o h k = k

found_all : {X : Type 0} (P : X → Type 0) (p : X → Bool) (xs : List X) → AllByRecursion P xs
    → IfSome (find p xs) P
found_all P p [] h = tt
found_all P p (x ∷ xs) h = found_first P (p x) x (find p xs) h.0 (found_all P p xs h.1)

value_there : (levels : ℕ) (text : List ℕ) (o : Option Member) → IfSome o (IsMemberIn levels text)
    → IfSome (option_map (sent_value text) o) (IsValue levels)
value_there levels text None h = tt
value_there levels text (Some member) h = h.valued

-- what a member has is a value
pub valued : (levels : ℕ) (text : List ℕ) (members : List Member) (name : List ℕ)
    → IsObjectText (suc levels) text members → IfSome (value_of text members name) (IsValue levels)
valued levels text members name is =
    value_there levels text (find (is_named name) (reverse members))
    (found_all (IsMemberIn levels text) (is_named name) (reverse members)
    (all_reverse (IsMemberIn levels text) members (members_in levels text members is)))

begins_array : (levels : ℕ) (rest : List ℕ) → IsValue levels (91 ∷ rest) → IsArrayValue (91 ∷ rest)
begins_array zero rest value = absurd ((value_flat rest).0 value)
begins_array (suc levels) rest value =
    let (elements, array) = (value_array levels rest).0 value in
    (levels, elements, array)

by_bracket : (levels b : ℕ) (rest : List ℕ) → IsValue levels (b ∷ rest) → (b ≡ 91) ⊎ (b ≢ 91)
    → Decision (IsArrayValue (b ∷ rest))
by_bracket levels b rest value (inl e) =
    inl (subst (λ x. IsArrayValue (x ∷ rest)) (sym e)
    (begins_array levels rest (subst (λ x. IsValue levels (x ∷ rest)) e value)))
by_bracket levels b rest value (inr other) =
    inr (λ (depth, elements, (inner, items, whole)). other (head_of whole))

array_value : (levels : ℕ) (value : List ℕ) → IsValue levels value → Decision (IsArrayValue value)
array_value levels [] is = absurd (value_empty levels is)
array_value levels (b ∷ rest) is = by_bracket levels b rest is (cases_eq b 91)

array_in : (levels : ℕ) (o : Option (List ℕ)) → IfSome o (IsValue levels)
    → Decision (MatchOption o ⊥ IsArrayValue)
array_in levels None h = inr (λ none. none)
array_in levels (Some value) h = array_value levels value h

pub array_there : (levels : ℕ) (text : List ℕ) (members : List Member) (name : List ℕ)
    → IsObjectText (suc levels) text members → Decision (HasArray text members name)
array_there levels text members name is =
    array_in levels (value_of text members name) (valued levels text members name is)
