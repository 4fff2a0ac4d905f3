-- Where each move leads that begins no bracket.
use Rattle.std.proofs.Common.{◌≡◌, ◌↔◌, ℕ, ◌+◌, ◌≤◌, List, [], ◌∷◌, ◌++◌, length, drop, Option, refl, sym, subst, arith}
use Rattle.std.proofs.Math.Seq.{drop-append_seam}
use Rattle.std.proofs.lemmas.List.{drop-append-le}
use Rattle.fk_json.specs.String.{IsString}
use Rattle.fk_json.specs.TokenRests.{StringLeft}
use Rattle.fk_json.specs.Moves.{innermost, most_inner}
use Rattle.fk_json.specs.Left.{Fits, Item}
use Rattle.fk_json.specs.Standing.{placed}
use Rattle.fk_json.specs.Remainder.{Adds, IsKnown, NameRest, pending_of}
use Rattle.fk_json.specs.declared.mode.Bracket.{Bracket}
use Rattle.fk_json.specs.declared.mode.Bracket.TheVariants.{Array, Object}
use Rattle.fk_json.specs.declared.mode.Mode.{Mode}
use Rattle.fk_json.specs.declared.mode.Mode.TheVariants.{First, Naming, Within}
use Rattle.fk_json.specs.Moves.{Move}
use Rattle.fk_json.specs.Moves.{To, Names, Begins}
use Rattle.fk_json.specs.declared.standing.Found.{Found}
use Rattle.fk_json.specs.declared.standing.Places.{Places}
use Rattle.fk_json.specs.declared.standing.Region.TheVariants.{Between}
use Rattle.fk_json.specs.declared.standing.Standing.{Standing}
use Rattle.fk_json.specs.Step as step
use Rattle.fk_json.specs.declared.string_mode.StringMode.{StringMode}
use Rattle.fk_json.specs.declared.string_mode.StringMode.TheVariants.{Inside}
use Rattle.fk_json.specs.declared.token.Token.{Token}
use Rattle.fk_json.specs.Reached.{Finds, IsNamed, KnownBetween}
use Rattle.fk_json.proofs.Leads.{BetweenLeft, MovedLeft, to_left}
use Rattle.fk_json.proofs.Beginnings.{begins_left, names_left}
use Rattle.fk_json.proofs.Equivalences.{through}
use Rattle.fk_json.proofs.StringLeft.{string_begins}
use Rattle.fk_json.proofs.Tame.{IsAnObject, IsTame, PastBy}
use Rattle.fk_json.proofs.Outcomes.{Outcome, Source, finds_same, known_between, known_from, known_on, one_longer, tame_fits, tame_leads, tame_named, tame_past}

-- a stage of a step: what is left before the byte is what its move leaves
pub record Stage (outer : Bracket) (IsBefore : Source outer) (done : List ℕ) (inner : List Bracket)
    (places : Places) (mode : Mode) (b : ℕ) (item : Option Found) (move : Move) : Type 0 where
  pub name : List ℕ
  pub open_few : length inner ≤ most_inner
  pub name_within : places.name_from ≤ length done
  pub named : IsNamed mode (NameRest (drop places.name_from done) inner mode)
  pub known : KnownBetween outer inner mode (IsKnown done places name)
  pub tame : IsTame (innermost outer inner) mode b move
  pub has : (items : List (Item outer)) × Adds outer done item items
  pub left : (items : List (Item outer)) → Adds outer done item items
      → (most : ℕ) (rest : List ℕ) (others : List (Item outer)) → most_inner ≤ most
      → (IsBefore most rest others)
      ↔ (Finds items (λ last. MovedLeft outer most (drop places.name_from done) (pending_of name places) inner
      mode (length done) b rest last move) others)

grown_front : (done : List ℕ) (b from : ℕ) → from ≤ length done
    → drop from done ++ b ∷ [] ≡ drop from (done ++ b ∷ [])
grown_front done b from within = sym (drop-append-le from done (b ∷ []) within)

-- the scan stands so, between the outermost brackets
abbrev pub between_at : List Bracket → Places → Mode → Standing
between_at inner places mode = record { region = Between mode; inner = inner; places = places }

-- a stage leads on to where what is left is what its move leaves
pub stage_leads : (outer : Bracket) (IsBefore : Source outer) (done : List ℕ) (inner more : List Bracket)
    (places here : Places) (mode to : Mode) (b : ℕ) (item : Option Found) (move : Move)
    → (s : Stage outer IsBefore done inner places mode b item move)
    → length more ≤ most_inner → here.name_from ≤ length (done ++ b ∷ [])
    → Fits (innermost outer more) to
    → IsNamed to (NameRest (drop here.name_from (done ++ b ∷ [])) more to)
    → KnownBetween outer more to (IsKnown (done ++ b ∷ []) here s.name)
    → ((most : ℕ) (rest : List ℕ) (last : List (Item outer)) → most_inner ≤ most
    → (MovedLeft outer most (drop places.name_from done) (pending_of s.name places) inner mode
    (length done) b rest last move)
    ↔ (BetweenLeft outer most (drop here.name_from (done ++ b ∷ [])) (pending_of s.name here) more to
    (length done + 1) rest last))
    → Outcome outer IsBefore done inner b (step.Goes (between_at more here to) item)
stage_leads outer IsBefore done inner more places here mode to b item move s few within fits named known left = (
  s.has,
  λ items adds. record {
    name = s.name;
    open_few = few;
    name_within = within;
    fits = fits;
    named = named;
    known = known;
    leads = λ most rest others enough.
        through (s.left items adds most rest others enough)
        (finds_same items
        (λ last. MovedLeft outer most (drop places.name_from done) (pending_of s.name places) inner mode
        (length done) b rest last move)
        (λ last. BetweenLeft outer most (drop here.name_from (done ++ b ∷ [])) (pending_of s.name here) more to
        (length done + 1) rest last) others
        (λ last. left most rest last enough));
  },
)

pub leads_to : (outer : Bracket) (IsBefore : Source outer) (done : List ℕ) (inner : List Bracket)
    (places : Places) (mode to : Mode) (b : ℕ) (item : Option Found)
    → Stage outer IsBefore done inner places mode b item (To to)
    → Outcome outer IsBefore done inner b (step.Goes (between_at inner places to) item)
leads_to outer IsBefore done inner places mode to b item s =
    let front = grown_front done b places.name_from s.name_within in
    let bracket = innermost outer inner in
    stage_leads outer IsBefore done inner inner places places mode to b item (To to) s s.open_few
    (one_longer done b places.name_from s.name_within) (tame_fits bracket mode b to s.tame)
    (subst (λ x. IsNamed to (NameRest x inner to)) front
    (tame_named bracket (drop places.name_from done) inner b mode to s.tame s.named))
    (known_between outer inner mode to (IsKnown done places s.name) (IsKnown (done ++ b ∷ []) places s.name)
    (known_on done b places s.name) (tame_past bracket mode b to s.tame) s.known)
    (λ most rest last enough.
    subst (λ x. (MovedLeft outer most (drop places.name_from done) (pending_of s.name places) inner
    mode (length done) b rest last (To to))
    ↔ (BetweenLeft outer most x (pending_of s.name places) inner to (length done + 1) rest last)) front
    (to_left outer most (drop places.name_from done) (pending_of s.name places) inner mode to (length done) b rest last
    (tame_leads bracket mode b to s.tame)))

is_object : (bracket : Bracket) → IsAnObject bracket → bracket ≡ Object
is_object Array is = absurd is
is_object Object is = refl

fits_name : (bracket : Bracket) (mode : StringMode) → IsAnObject bracket → Fits bracket (Naming mode)
fits_name Array mode is = absurd is
fits_name Object mode is = tt

pub fits_within : (bracket : Bracket) (token : Token) → Fits bracket (Within token)
fits_within Array token = tt
fits_within Object token = tt

pub fits_first : (bracket : Bracket) → Fits bracket First
fits_first Array = tt
fits_first Object = tt

last_byte : (done : List ℕ) (b : ℕ) → drop (length done) (done ++ b ∷ []) ≡ b ∷ []
last_byte done b = drop-append_seam done (b ∷ [])

-- a name that is being read isn't known
known_none : (outer : Bracket) (next : StringMode) (X : Type 0) → KnownBetween outer [] (Naming next) X
known_none Array next X = tt
known_none Object next X = λ p. absurd p

known_naming : (outer : Bracket) (inner : List Bracket) (mode : Mode) (next : StringMode) (X Y : Type 0)
    → (X → Y) → KnownBetween outer inner mode X → KnownBetween outer inner (Naming next) Y
known_naming outer inner mode next X Y f known =
    known_between outer inner mode (Naming next) X Y f (λ p. absurd p) known

named_quote : (b : ℕ) → b ≡ 34
    → (rest : List ℕ) → ((name : List ℕ) × IsString (b ∷ rest) name) ↔ (StringLeft Inside rest)
named_quote b quote rest = through
    (λ h. (h.0, subst (λ x. IsString (x ∷ rest) h.0) quote h.1), λ h. (h.0, subst (λ x. IsString (x ∷ rest) h.0) (sym quote) h.1))
    (string_begins rest)

pub leads_names : (outer : Bracket) (IsBefore : Source outer) (done : List ℕ) (inner : List Bracket)
    (places : Places) (mode : Mode) (b : ℕ) (item : Option Found)
    → Stage outer IsBefore done inner places mode b item Names
    → Outcome outer IsBefore done inner b
    (step.Goes (between_at inner (placed inner (record places { name_from = length done }) places) (Naming Inside)) item)
leads_names outer IsBefore done [] places mode b item s =
    let e = last_byte done b in
    let here = record places { name_from = length done } in
    stage_leads outer IsBefore done [] [] places here mode (Naming Inside) b item Names s s.open_few
    (one_longer done b (length done) (omega arith)) (fits_name outer Inside s.tame.0)
    (subst (λ x. IsNamed (Naming Inside) (NameRest x [] (Naming Inside))) (sym e) (named_quote b s.tame.1))
    (known_none outer Inside (IsKnown (done ++ b ∷ []) here s.name))
    (λ most rest last enough.
    subst (λ x. (MovedLeft outer most (drop places.name_from done) (pending_of s.name places) [] mode
    (length done) b rest last Names)
    ↔ (BetweenLeft outer most x (pending_of s.name here) [] (Naming Inside) (length done + 1) rest last)) (sym e)
    (names_left most outer (drop places.name_from done) s.name places [] mode (length done) b rest last
    (is_object outer s.tame.0) s.tame.1))
leads_names outer IsBefore done (c ∷ inner) places mode b item s =
    stage_leads outer IsBefore done (c ∷ inner) (c ∷ inner) places places mode (Naming Inside) b item Names s s.open_few
    (one_longer done b places.name_from s.name_within) (fits_name c Inside s.tame.0)
    (λ rest. (λ h. h.1, λ l. ([], l)))
    (known_naming outer (c ∷ inner) mode Inside (IsKnown done places s.name)
    (IsKnown (done ++ b ∷ []) places s.name) (known_on done b places s.name) s.known)
    (λ most rest last enough.
    names_left most outer (drop places.name_from done) s.name places (c ∷ inner) mode (length done) b rest last
    (is_object c s.tame.0) s.tame.1)

known_begun : (outer : Bracket) (mode to : Mode) (X Y : Type 0) → (X → Y) → PastBy outer mode
    → KnownBetween outer [] mode X → KnownBetween outer [] to Y
known_begun Array mode to X Y f past known = tt
known_begun Object mode to X Y f past known = λ p. f (known past)

pub known_deeper : (outer : Bracket) (mode : Mode) (c : Bracket) (to : Mode) (X Y : Type 0) → (X → Y)
    → PastBy outer mode → KnownBetween outer [] mode X → KnownBetween outer (c ∷ []) to Y
known_deeper Array mode c to X Y f past known = tt
known_deeper Object mode c to X Y f past known = f (known past)

pub known_inner : (outer : Bracket) (c d : Bracket) (inner more : List Bracket) (mode to : Mode) (X Y : Type 0)
    → (X → Y) → KnownBetween outer (c ∷ inner) mode X → KnownBetween outer (d ∷ more) to Y
known_inner Array c d inner more mode to X Y f known = tt
known_inner Object c d inner more mode to X Y f known = f known

pub leads_begins : (outer : Bracket) (IsBefore : Source outer) (done : List ℕ) (inner : List Bracket)
    (places : Places) (mode : Mode) (token : Token) (b : ℕ) (item : Option Found)
    → Stage outer IsBefore done inner places mode b item (Begins token)
    → Outcome outer IsBefore done inner b
    (step.Goes (between_at inner (placed inner (record places { from = length done }) places) (Within token)) item)
leads_begins outer IsBefore done [] places mode token b item s =
    let here = record places { from = length done } in
    stage_leads outer IsBefore done [] [] places here mode (Within token) b item (Begins token) s s.open_few
    (one_longer done b places.name_from s.name_within) (fits_within outer token) tt
    (known_begun outer mode (Within token) (IsKnown done places s.name) (IsKnown (done ++ b ∷ []) here s.name)
    (λ known. known_from (done ++ b ∷ []) places (length done) s.name (known_on done b places s.name known))
    s.tame s.known)
    (λ most rest last enough.
    begins_left outer most (drop places.name_from done) (drop places.name_from (done ++ b ∷ []))
    s.name places [] mode token (length done) b rest last)
leads_begins outer IsBefore done (c ∷ inner) places mode token b item s =
    stage_leads outer IsBefore done (c ∷ inner) (c ∷ inner) places places mode (Within token) b item (Begins token) s
    s.open_few (one_longer done b places.name_from s.name_within) (fits_within c token) tt
    (known_inner outer c c inner inner mode (Within token) (IsKnown done places s.name)
    (IsKnown (done ++ b ∷ []) places s.name) (known_on done b places s.name) s.known)
    (λ most rest last enough.
    begins_left outer most (drop places.name_from done) (drop places.name_from (done ++ b ∷ []))
    s.name places (c ∷ inner) mode token (length done) b rest last)
