-- What is left between brackets, taken apart into what stands one behind the other.
use Rattle.std.proofs.Common.{◌≡◌, ◌↔◌, inl, inr, ℕ, ◌+◌, List, [], ◌∷◌, ◌++◌, length, refl, sym, ap, subst, ◌∙◌, arith}
use Rattle.std.proofs.lemmas.List.{append_assoc, length-append}
use Rattle.fk_json.specs.Json.{AreJoined}
use Rattle.fk_json.specs.Left.{Frame, noted, Spaced, ByteThen, ItemsLeft, TailLeft}

-- ---- what stands behind white space, or behind one byte

-- a change of what stands behind is one of the whole
pub spaced_to : (P Q : ℕ → List ℕ → Type 0)
    → ((place : ℕ) (rest : List ℕ) → P place rest → Q place rest)
    → (at : ℕ) (text : List ℕ) → Spaced P at text → Spaced Q at text
spaced_to P Q f at text (spaces, rest, space, p, e) = (spaces, rest, space, f (at + length spaces) rest p, e)

pub spaced_map : (P Q : ℕ → List ℕ → Type 0)
    → ((place : ℕ) (rest : List ℕ) → P place rest ↔ Q place rest)
    → (at : ℕ) (text : List ℕ) → Spaced P at text ↔ Spaced Q at text
spaced_map P Q f at text = (
  spaced_to P Q (λ place rest. (f place rest).0) at text,
  spaced_to Q P (λ place rest. (f place rest).1) at text,
)

pub byte_to : (byte : ℕ) (P Q : ℕ → List ℕ → Type 0)
    → ((place : ℕ) (rest : List ℕ) → P place rest → Q place rest)
    → (at : ℕ) (text : List ℕ) → ByteThen byte P at text → ByteThen byte Q at text
byte_to byte P Q f at text (rest, p, e) = (rest, f (at + 1) rest p, e)

pub byte_map : (byte : ℕ) (P Q : ℕ → List ℕ → Type 0)
    → ((place : ℕ) (rest : List ℕ) → P place rest ↔ Q place rest)
    → (at : ℕ) (text : List ℕ) → ByteThen byte P at text ↔ ByteThen byte Q at text
byte_map byte P Q f at text = (
  byte_to byte P Q (λ place rest. (f place rest).0) at text,
  byte_to byte Q P (λ place rest. (f place rest).1) at text,
)

-- ---- the first item

-- an item, and what is left behind it
abbrev pub ItemThen : {I O : Type 0} → Frame I O → ℕ → List ℕ → List O → Type 0
ItemThen {I} {O} F at text found =
    (piece behind : List ℕ) × (item : I) × (others : List O) × F.IsItem at piece item
    × TailLeft F (at + length piece) behind others × (found ≡ F.note item others)
    × (text ≡ piece ++ behind)

-- the place behind a piece, a comma and more
place_behind : (at : ℕ) (inner piece more : List ℕ) → inner ≡ piece ++ 44 ∷ more
    → at + length inner + 1 ≡ at + length piece + 1 + length more + 1
place_behind at inner piece more e = omega (arith, ap length e, length-append piece (44 ∷ more))

-- items, from the first one on
item_first : {I O : Type 0} (F : Frame I O) (at : ℕ) (text : List ℕ) (found : List O)
    (items : List I) (inner rest : List ℕ) (others : List O)
    → AreJoined F.IsItem at inner items → F.Behind (at + length inner + 1) rest others
    → found ≡ noted F.note items others → text ≡ inner ++ F.close ∷ rest → ItemThen F at text found
item_first F at text found [] inner rest others joined behind f e = absurd joined
item_first F at text found (item ∷ []) inner rest others is behind f e =
    (inner, F.close ∷ rest, item, others, is, inl (rest, behind, refl), f, e)
item_first F at text found (item ∷ next ∷ items) inner rest others (piece, more, is, joined, w) behind f e =
    let whole : inner ≡ piece ++ 44 ∷ more = w ∙ append_assoc piece (44 ∷ []) more in
    let there = subst (λ n. F.Behind n rest others) (place_behind at inner piece more whole) behind in (
      piece,
      44 ∷ (more ++ F.close ∷ rest),
      item,
      noted F.note (next ∷ items) others,
      is,
      inr (more ++ F.close ∷ rest, (next ∷ items, more, rest, others, joined, there, refl, refl), refl),
      f,
      e ∙ ap (λ x. x ++ F.close ∷ rest) whole ∙ append_assoc piece (44 ∷ more) (F.close ∷ rest),
    )

-- an item, a comma and items
item_more : {I O : Type 0} (F : Frame I O) (at : ℕ) (text : List ℕ) (found : List O)
    (piece rest : List ℕ) (item : I) (others : List O) (items : List I)
    (more last : List ℕ) (found_last : List O)
    → F.IsItem at piece item → found ≡ F.note item others → text ≡ piece ++ 44 ∷ rest
    → AreJoined F.IsItem (at + length piece + 1) more items
    → F.Behind (at + length piece + 1 + length more + 1) last found_last
    → others ≡ noted F.note items found_last → rest ≡ more ++ F.close ∷ last → ItemsLeft F at text found
item_more F at text found piece rest item others [] more last found_last is f e joined behind g w =
    absurd joined
item_more F at text found piece rest item others (next ∷ items) more last found_last
    is f e joined behind g w =
    let whole : piece ++ (44 ∷ []) ++ more ≡ piece ++ 44 ∷ more = append_assoc piece (44 ∷ []) more in
    let place = place_behind at (piece ++ (44 ∷ []) ++ more) piece more whole in (
      item ∷ next ∷ items,
      piece ++ (44 ∷ []) ++ more,
      last,
      found_last,
      (piece, more, is, joined, refl),
      subst (λ n. F.Behind n last found_last) (sym place) behind,
      f ∙ ap (λ x. F.note item x) g,
      e ∙ ap (λ x. piece ++ 44 ∷ x) w ∙ sym (append_assoc piece (44 ∷ more) (F.close ∷ last))
          ∙ ap (λ x. x ++ F.close ∷ last) (sym whole),
    )

item_tail : {I O : Type 0} (F : Frame I O) (at : ℕ) (text : List ℕ) (found : List O)
    (piece behind : List ℕ) (item : I) (others : List O) → F.IsItem at piece item
    → TailLeft F (at + length piece) behind others → found ≡ F.note item others → text ≡ piece ++ behind
    → ItemsLeft F at text found
item_tail F at text found piece behind item others is (inl (rest, there, w)) f e =
    (item ∷ [], piece, rest, others, is, there, f, e ∙ ap (λ x. piece ++ x) w)
item_tail F at text found piece behind item others is
    (inr (rest, (items, more, last, found_last, joined, there, g, v), w)) f e =
    item_more F at text found piece rest item others items more last found_last is f
    (e ∙ ap (λ x. piece ++ x) w) joined there g v

pub items_apart : {I O : Type 0} (F : Frame I O) (at : ℕ) (text : List ℕ) (found : List O)
    → ItemsLeft F at text found ↔ ItemThen F at text found
items_apart F at text found = (
  λ (items, inner, rest, others, joined, behind, f, e).
      item_first F at text found items inner rest others joined behind f e,
  λ (piece, behind, item, others, is, tail, f, e).
      item_tail F at text found piece behind item others is tail f e,
)
