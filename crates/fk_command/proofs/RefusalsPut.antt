-- The members that tell why elements were refused: they are put one by one, and none is a float.
use Rattle.std.proofs.Common.{◌≡◌, ◌∙◌, ℕ, Bool, true, false, List, [], ◌∷◌, Ordering, Less, Equal, Greater, refl, ap, nat_cmp, ◌||◌, true≢false, String, Global, string_bytes, string_cmp, rules}
use Rattle.std.specs.BTreeMap.{insert_entry}
use Rattle.std.specs.Cmp.Lexicographic.{slice_cmp}
use Rattle.std.specs.Ordering.{match_ordering}
use Rattle.serde_json.specs.Data.{Members, no_members, member, put, string}
use Rattle.serde_json.specs.View.{members_view, view}
use Rattle.serde_json.specs.declared.value.Value as Value
use Rattle.serde_json.specs.declared.value.Value.{the_lemmas}
use Rattle.serde_json.proofs.Views.{Entry, members_view-insert_entry}
use Rattle.serde_json.specs.Written.{has_float, members_have_float}
use Rattle.fk_model.specs.Payloads.{Element, taken, barred, refusals}

-- a string's value is its bytes
view-String : (reason : String Global) → view (Value.String reason) ≡ string (string_bytes reason)
view-String reason = search (rules, the_lemmas)

-- what the members are behind an insert
pub inserts : (old new : List Entry) (key reason : String Global) (text : List ℕ)
    → new ≡ insert_entry string_cmp old key (Value.String reason) → string_bytes reason ≡ text
    → members_view new ≡ put (string_bytes key) (string text) (members_view old)
inserts old new key reason text is words =
    ap members_view is ∙ members_view-insert_entry old key (Value.String reason)
    ∙ ap (λ value. put (string_bytes key) value (members_view old)) (view-String reason ∙ ap string words)

-- a refusal put to members without a float leaves them so
by_order : (order : Ordering) (here there behind : Members) → members_have_float here ≡ false
    → members_have_float there ≡ false → members_have_float behind ≡ false
    → members_have_float (match_ordering order here there behind) ≡ false
by_order Less here there behind one two three = one
by_order Equal here there behind one two three = two
by_order Greater here there behind one two three = three

put_without_float : (key reason : List ℕ) (members : Members) → members_have_float members ≡ false
    → members_have_float (put key (string reason) members) ≡ false
put_without_float key reason no_members none = refl
put_without_float key reason (member name value members) none =
    let parts = split_or (has_float value) _ none in
    by_order (slice_cmp nat_cmp key name) _ _ _ none parts.1
    (rw parts.0 (put_without_float key reason members parts.1))
  where
    split_or : (one other : Bool) → (one || other) ≡ false → (one ≡ false) × (other ≡ false)
    split_or false other none = (refl, none)
    split_or true other none = absurd (true≢false none)

-- no refusal is a float
pub refused_without_float : (elements : List Element) (told : Members) → members_have_float told ≡ false
    → members_have_float (refusals elements told) ≡ false
refused_without_float [] told none = none
refused_without_float (taken job ∷ elements) told none = refused_without_float elements told none
refused_without_float (barred key reason ∷ elements) told none =
    refused_without_float elements _ (put_without_float key reason told none)
