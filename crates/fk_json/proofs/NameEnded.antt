-- A name has ended between the outermost brackets: what it is, and what is left behind it.
use Rattle.std.proofs.Common.{◌≡◌, ◌↔◌, ℕ, ◌≤◌, List, [], ◌∷◌, length, drop, None, refl, sym, subst, arith}
use Rattle.std.proofs.Math.Seq.{take-length}
use Rattle.std.proofs.lemmas.List.{append-nil}
use Rattle.fk_json.specs.Json.{IsValue}
use Rattle.fk_json.specs.String.{IsString}
use Rattle.fk_json.specs.Moves.{innermost, move_of}
use Rattle.fk_json.specs.Left.{ColonLeft, Fits, Item, outermost}
use Rattle.fk_json.specs.Standing.{placed}
use Rattle.fk_json.specs.Remainder.{IsKnown, NameRest, pending_of}
use Rattle.fk_json.specs.declared.mode.Bracket.{Bracket}
use Rattle.fk_json.specs.declared.mode.Bracket.TheVariants.{Array, Object}
use Rattle.fk_json.specs.declared.mode.Mode.{Mode}
use Rattle.fk_json.specs.declared.mode.Mode.TheVariants.{First, Next, Naming, Colon, Value, Within, After}
use Rattle.fk_json.specs.Moves.{Named}
use Rattle.fk_json.specs.declared.standing.Places.{Places}
use Rattle.fk_json.specs.Reached.{IsNamed, KnownBetween}
use Rattle.fk_json.proofs.Leads.{BetweenLeft, MovedLeft, between_moves}
use Rattle.fk_json.proofs.Stages.{Stage}
use Rattle.fk_json.proofs.Equivalences.{same, through}
use Rattle.fk_json.proofs.StringLeft.{string_may_end}
use Rattle.fk_json.proofs.Strings.{one_value}
use Rattle.fk_json.proofs.Tame.{EndsName, IsAnObject, tame}
use Rattle.fk_json.proofs.KnownBetween.{Here, Known, MovesTo, finds_none}

-- the places behind the name
abbrev pub named_places : List Bracket → Places → ℕ → Places
named_places inner places at = placed inner (record places { name_to = at }) places

pub fits_colon : (bracket : Bracket) → IsAnObject bracket → Fits bracket Colon
fits_colon Array is = absurd is
fits_colon Object is = tt

-- a name's value, where its mode may end
name_value : (front : List ℕ) (mode : Mode) → EndsName mode → IsNamed mode (NameRest front [] mode)
    → (name : List ℕ) × IsString front name
name_value front First ends named = absurd ends
name_value front Next ends named = absurd ends
name_value front (Naming mode) ends named =
    let h = (named []).1 (string_may_end mode ends) in
    (h.0, subst (λ x. IsString x h.0) (append-nil front) h.1)
name_value front Colon ends named = absurd ends
name_value front Value ends named = absurd ends
name_value front (Within token) ends named = absurd ends
name_value front After ends named = absurd ends

inner_ends : (front : List ℕ) (c : Bracket) (inner : List Bracket) (mode : Mode) → EndsName mode
    → NameRest front (c ∷ inner) mode [] []
inner_ends front c inner First ends = absurd ends
inner_ends front c inner Next ends = absurd ends
inner_ends front c inner (Naming mode) ends = string_may_end mode ends
inner_ends front c inner Colon ends = absurd ends
inner_ends front c inner Value ends = absurd ends
inner_ends front c inner (Within token) ends = absurd ends
inner_ends front c inner After ends = absurd ends

-- the value of the name that is pending behind it
abbrev pub NameThen : List ℕ → List ℕ → List Bracket → List ℕ → Type 0
NameThen front name [] value = IsString front value
NameThen front name (c ∷ inner) value = value ≡ name

named_left : (outer : Bracket) (done name value : List ℕ) (inner : List Bracket) (places : Places) (mode : Mode)
    (b : ℕ) → IsAnObject (innermost outer inner) → EndsName mode
    → NameThen (drop places.name_from done) name inner value
    → (most : ℕ) (rest : List ℕ) (others : List (Item outer))
    → (MovedLeft outer most (drop places.name_from done) (pending_of name places) inner mode (length done) b rest
    others Named)
    ↔ (BetweenLeft outer most (drop places.name_from done) (pending_of value (named_places inner places (length done)))
    inner Colon (length done) (b ∷ rest) others)
named_left Array done name value [] places mode b object ends is most rest others = absurd object
named_left Object done name value [] places mode b object ends is most rest others =
    let front = drop places.name_from done in
    let at = length done in (
      λ (levels, l, (found, spelled, colon)).
          let e = one_value front found value (subst (λ x. IsString x found) (append-nil front) spelled) is in (
            levels,
            l,
            subst (λ x. ColonLeft (outermost Object levels) (IsValue levels) x places.name_from at at
                (b ∷ rest) others) e colon,
          ),
      λ (levels, l, colon).
          (levels, l, (value, subst (λ x. IsString x value) (sym (append-nil front)) is, colon)),
    )
named_left outer done name value (Array ∷ inner) places mode b object ends is most rest others = absurd object
named_left outer done name value (Object ∷ inner) places mode b object ends is most rest others =
    subst (λ x. (MovedLeft outer most (drop places.name_from done) (pending_of name places) (Object ∷ inner) mode
    (length done) b rest others Named)
    ↔ (BetweenLeft outer most (drop places.name_from done) (pending_of x places)
    (Object ∷ inner) Colon (length done) (b ∷ rest) others)) (sym is) (
      λ (levels, l, (found, spelled, colon)). (levels, l, colon),
      λ (levels, l, colon).
          (levels, l, ([], inner_ends (drop places.name_from done) Object inner mode ends, colon)),
    )

value_named : (done name : List ℕ) (inner : List Bracket) (places : Places) (mode : Mode) → EndsName mode
    → IsNamed mode (NameRest (drop places.name_from done) inner mode)
    → (value : List ℕ) × NameThen (drop places.name_from done) name inner value
value_named done name [] places mode ends named = name_value (drop places.name_from done) mode ends named
value_named done name (c ∷ inner) places mode ends named = (name, refl)

known_named : (outer : Bracket) (done name value : List ℕ) (inner : List Bracket) (places : Places) (mode : Mode)
    → places.name_from ≤ length done → NameThen (drop places.name_from done) name inner value
    → KnownBetween outer inner mode (IsKnown done places name)
    → KnownBetween outer inner Colon (IsKnown done (named_places inner places (length done)) value)
known_named Array done name value inner places mode within is known = tt
known_named Object done name value [] places mode within is known = λ p. record {
  ordered = within;
  within = omega (arith);
  spelled = subst (λ x. IsString (drop places.name_from x) value) (sym (take-length done)) is;
}
known_named Object done name value (c ∷ inner) places mode within is known =
    subst (λ x. IsKnown done places x) (sym is) known

named_within : (done : List ℕ) (inner : List Bracket) (places : Places) → places.name_from ≤ length done
    → (named_places inner places (length done)).name_from ≤ length done
named_within done [] places within = within
named_within done (c ∷ inner) places within = within

named_front : (done : List ℕ) (inner : List Bracket) (places : Places)
    → drop places.name_from done ≡ drop (named_places inner places (length done)).name_from done
named_front done [] places = refl
named_front done (c ∷ inner) places = refl

pub named_stage : (outer : Bracket) (done name : List ℕ) (inner : List Bracket) (places : Places) (mode : Mode)
    (b : ℕ) → Known outer done name inner places mode → MovesTo outer done name inner places mode b Named
    → EndsName mode → IsAnObject (innermost outer inner)
    → Stage outer (Here outer done name inner places mode b) done inner (named_places inner places (length done))
    Colon b None (move_of (innermost outer inner) Colon b)
named_stage outer done name inner places mode b k moves ends object =
    let (value, is) = value_named done name inner places mode ends k.named in
    let there = named_places inner places (length done) in
    let fits = fits_colon (innermost outer inner) object in record {
      name = value;
      open_few = k.open_few;
      name_within = named_within done inner places k.name_within;
      named = tt;
      known = known_named outer done name value inner places mode k.name_within is k.known;
      tame = tame (innermost outer inner) Colon b fits;
      has = ([], refl);
      left = λ items adds most rest others enough.
          through (moves most rest others)
          (through (named_left outer done name value inner places mode b object ends is most rest others)
          (through (subst (λ x. (BetweenLeft outer most (drop places.name_from done) (pending_of value there) inner Colon
          (length done) (b ∷ rest) others)
          ↔ (BetweenLeft outer most x (pending_of value there) inner Colon (length done) (b ∷ rest) others))
          (named_front done inner places) same)
          (through (between_moves outer most (drop there.name_from done) (pending_of value there) inner Colon
          (length done) b rest others fits tt)
          (finds_none items (λ last. MovedLeft outer most (drop there.name_from done) (pending_of value there) inner Colon
          (length done) b rest last (move_of (innermost outer inner) Colon b)) others adds))));
    }
