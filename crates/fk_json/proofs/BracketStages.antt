-- Where a bracket leads that opens or closes.
use Rattle.std.proofs.Common.{◌≡◌, ℕ, suc, ◌≤◌, ◌<◌, Bool, true, false, List, [], ◌∷◌, ◌++◌, length, drop, Option, if◌then◌else◌, refl, arith}
use Rattle.std.specs.Prelude.{nat_le}
use Rattle.std.proofs.lemmas.Bool.{leb-true, leb-false}
use Rattle.fk_json.specs.Moves.{innermost, most_inner}
use Rattle.fk_json.specs.Standing.{closed_in, placed}
use Rattle.fk_json.specs.Remainder.{IsKnown, pending_of}
use Rattle.fk_json.specs.declared.mode.Bracket.{Bracket}
use Rattle.fk_json.specs.declared.mode.Bracket.TheVariants.{Array, Object}
use Rattle.fk_json.specs.declared.mode.Mode.{Mode}
use Rattle.fk_json.specs.declared.mode.Mode.TheVariants.{First, Within}
use Rattle.fk_json.specs.Moves.{Opens, Closes}
use Rattle.fk_json.specs.declared.standing.Found.{Found}
use Rattle.fk_json.specs.declared.standing.Places.{Places}
use Rattle.fk_json.specs.Step as step
use Rattle.fk_json.specs.declared.token.Token.TheVariants.{Bracketed}
use Rattle.fk_json.specs.Reached.{KnownBetween}
use Rattle.fk_json.proofs.Beginnings.{closes_inner, opens_left, opens_none, pending_at}
use Rattle.fk_json.proofs.Outcomes.{Outcome, Source, known_from, known_on, one_longer}
use Rattle.fk_json.proofs.Stages.{stage_leads, Stage, between_at, fits_first, fits_within, known_deeper, known_inner}

-- the places behind the first byte of a value
abbrev pub begun_places : List Bracket → Places → ℕ → Places
begun_places inner places at = placed inner (record places { from = at }) places

leads_opens : (outer : Bracket) (IsBefore : Source outer) (done : List ℕ) (inner : List Bracket)
    (places : Places) (mode : Mode) (c : Bracket) (b : ℕ) (item : Option Found)
    → length inner < most_inner
    → Stage outer IsBefore done inner places mode b item (Opens c)
    → Outcome outer IsBefore done inner b
    (step.Goes (between_at (c ∷ inner) (begun_places inner places (length done)) First) item)
leads_opens outer IsBefore done [] places mode c b item room s =
    let here = record places { from = length done } in
    stage_leads outer IsBefore done [] (c ∷ []) places here mode First b item (Opens c) s (omega (arith, room))
    (one_longer done b places.name_from s.name_within) (fits_first c) tt
    (known_deeper outer mode c First (IsKnown done places s.name) (IsKnown (done ++ b ∷ []) here s.name)
    (λ known. known_from (done ++ b ∷ []) places (length done) s.name (known_on done b places s.name known))
    s.tame s.known)
    (λ most rest last enough.
    opens_left outer most (drop places.name_from done) (drop places.name_from (done ++ b ∷ []))
    s.name places [] mode c (length done) b rest last)
leads_opens outer IsBefore done (d ∷ inner) places mode c b item room s =
    stage_leads outer IsBefore done (d ∷ inner) (c ∷ d ∷ inner) places places mode First b item (Opens c) s
    (omega (arith, room)) (one_longer done b places.name_from s.name_within) (fits_first c) tt
    (known_inner outer d c inner (d ∷ inner) mode First (IsKnown done places s.name)
    (IsKnown (done ++ b ∷ []) places s.name) (known_on done b places s.name) s.known)
    (λ most rest last enough.
    opens_left outer most (drop places.name_from done) (drop places.name_from (done ++ b ∷ []))
    s.name places (d ∷ inner) mode c (length done) b rest last)

deepens : (outer : Bracket) (IsBefore : Source outer) (done : List ℕ) (inner : List Bracket)
    (places : Places) (mode : Mode) (c : Bracket) (b : ℕ) (item : Option Found)
    → most_inner ≤ length inner
    → Stage outer IsBefore done inner places mode b item (Opens c)
    → Outcome outer IsBefore done inner b step.TooDeep
deepens outer IsBefore done inner places mode c b item full s =
    let items = s.has.0 in
    let adds = s.has.1 in (
      λ rest others before.
          let h = (s.left items adds most_inner rest others (omega arith)).0 before in
          opens_none outer most_inner (drop places.name_from done) (pending_of s.name places) inner mode c
          (length done) b rest h.0 full h.2,
      drop places.name_from (done ++ b ∷ []),
      pending_at inner s.name (record places { from = length done }) places,
      c,
      λ rest last later. (
        items ++ last,
        (s.left items adds (suc most_inner) rest (items ++ last) (omega arith)).1 (
          last,
          refl,
          (opens_left outer (suc most_inner) (drop places.name_from done)
              (drop places.name_from (done ++ b ∷ [])) s.name places inner mode c (length done) b rest last).1 later,
        ),
      ),
      omega (arith, full, s.open_few),
    )

pub opened_by : (outer : Bracket) (IsBefore : Source outer) (done : List ℕ) (inner : List Bracket)
    (places : Places) (mode : Mode) (c : Bracket) (b : ℕ) (item : Option Found) (full : Bool)
    → nat_le most_inner (length inner) ≡ full
    → Stage outer IsBefore done inner places mode b item (Opens c)
    → Outcome outer IsBefore done inner b (if full then step.TooDeep
    else step.Goes (between_at (c ∷ inner) (begun_places inner places (length done)) First) item)
opened_by outer IsBefore done inner places mode c b item true is s =
    deepens outer IsBefore done inner places mode c b item (leb-true most_inner (length inner) is) s
opened_by outer IsBefore done inner places mode c b item false is s =
    leads_opens outer IsBefore done inner places mode c b item (leb-false most_inner (length inner) is) s

known_closed : (outer c : Bracket) (inner : List Bracket) (mode to : Mode) (X Y : Type 0) → (X → Y)
    → KnownBetween outer (c ∷ inner) mode X → KnownBetween outer inner to Y
known_closed Array c inner mode to X Y f known = tt
known_closed Object c [] mode to X Y f known = λ p. f known
known_closed Object c (d ∷ inner) mode to X Y f known = f known

pub leads_closes : (outer : Bracket) (IsBefore : Source outer) (done : List ℕ) (inner : List Bracket)
    (places : Places) (mode : Mode) (b : ℕ) (item : Option Found)
    → Stage outer IsBefore done inner places mode b item Closes
    → Outcome outer IsBefore done inner b (step.Goes (closed_in inner places) item)
leads_closes outer IsBefore done [] places mode b item s = (
  s.has,
  λ items adds. record {
    name = s.name;
    open_few = s.open_few;
    name_within = one_longer done b places.name_from s.name_within;
    fits = refl;
    named = tt;
    known = tt;
    leads = λ most rest others enough. s.left items adds most rest others enough;
  },
)
leads_closes outer IsBefore done (c ∷ inner) places mode b item s =
    stage_leads outer IsBefore done (c ∷ inner) inner places places mode (Within Bracketed) b item Closes s
    (omega (arith, s.open_few)) (one_longer done b places.name_from s.name_within)
    (fits_within (innermost outer inner) Bracketed) tt
    (known_closed outer c inner mode (Within Bracketed) (IsKnown done places s.name)
    (IsKnown (done ++ b ∷ []) places s.name) (known_on done b places s.name) s.known)
    (λ most rest last enough.
    closes_inner outer most (drop places.name_from done) (drop places.name_from (done ++ b ∷ []))
    (pending_of s.name places) c inner mode (length done) b rest last (omega (arith, s.open_few, enough)))
