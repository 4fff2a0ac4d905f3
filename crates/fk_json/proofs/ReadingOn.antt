-- Reading a text on by a byte, from wherever a scan stands.
use Rattle.std.proofs.Common.{◌≡◌, ◌↔◌, ◌==◌, ℕ, suc, ◌+◌, ◌≤◌, Bool, true, false, List, [], ◌∷◌, ◌++◌, length, drop, if◌then◌else◌, refl, sym, ap, subst, ◌∙◌, arith}
use Rattle.std.proofs.lemmas.Bool.{and_from, and_parts, eqb-false, eqb-true, false≢true}
use Rattle.std.proofs.lemmas.List.{append_assoc, length-append}
use Rattle.fk_json.specs.Json.{IsSpace, is_space}
use Rattle.fk_json.specs.Moves.{opening}
use Rattle.fk_json.specs.Left.{ByteThen, FirstLeft, Item, outermost}
use Rattle.fk_json.specs.Standing.{before, behind, goes, read, read_in, to_mode}
use Rattle.fk_json.specs.Remainder.{IsKnown, IsTextOf, LevelsLeft}
use Rattle.fk_json.specs.declared.mode.Bracket.{Bracket}
use Rattle.fk_json.specs.declared.mode.Bracket.TheVariants.{Array, Object}
use Rattle.fk_json.specs.declared.mode.Mode.TheVariants.{First}
use Rattle.fk_json.specs.declared.standing.Places.{Places}
use Rattle.fk_json.specs.declared.standing.Region.{Region}
use Rattle.fk_json.specs.declared.standing.Region.TheVariants.{Before, Between, Behind}
use Rattle.fk_json.specs.declared.standing.Standing.{Standing}
use Rattle.fk_json.specs.Step.{Step}
use Rattle.fk_json.specs.Step as step
use Rattle.fk_json.specs.Reached.{FitsIn, NamedIn, KnownRegion, Finds, KnownBetween, Stands}
use Rattle.fk_json.proofs.Between.{between_right}
use Rattle.fk_json.proofs.Spaces.{byte_else, byte_on, spaced_none, spaced_on}
use Rattle.fk_json.proofs.Outcomes.{one_longer, Leads, Outcome}
use Rattle.fk_json.proofs.Equivalences.{same, through}
use Rattle.fk_json.proofs.Stages.{fits_first}

-- ---- one byte more

finds_more : {I : Type 0} (found items : List I) (P Q : List I → Type 0) (all : List I)
    → ((others : List I) → (P others) ↔ (Finds items Q others))
    → (Finds found P all) ↔ (Finds (found ++ items) Q all)
finds_more found items P Q all f = (
  λ (others, is, p).
      let (last, e, q) = (f others).0 p in
      (last, is ∙ ap (λ x. found ++ x) e ∙ sym (append_assoc found items last), q),
  λ (last, is, q). (items ++ last, is ∙ append_assoc found items last, (f (items ++ last)).1 (last, refl, q)),
)

-- the bytes before this one, and what is left before it
abbrev pub Ahead : (outer : Bracket) → List ℕ → List ℕ → Standing → ℕ → ℕ → List ℕ → List (Item outer) → Type 0
Ahead outer done name standing b = λ most rest others.
    LevelsLeft outer most (drop standing.places.name_from done) name standing (length done) (b ∷ rest) others

pub goes_on : (outer : Bracket) (done : List ℕ) (found : List (Item outer)) (standing : Standing) (b : ℕ)
    (items : List (Item outer)) (next : Standing) → (s : Stands outer done found standing)
    → Leads outer (Ahead outer done s.name standing b) done b items next
    → Stands outer (done ++ b ∷ []) (found ++ items) next
goes_on outer done found standing b items next s l = record {
  name = l.name;
  open_few = l.open_few;
  name_within = l.name_within;
  fits = l.fits;
  named = l.named;
  known = l.known;
  left = λ most rest all enough.
      let place : length done + 1 ≡ length (done ++ b ∷ []) = omega (arith, length-append done (b ∷ [])) in
      let whole = append_assoc done (b ∷ []) rest in
      let front = drop next.places.name_from (done ++ b ∷ []) in
      through (subst (λ x. (IsTextOf outer (suc most) x all) ↔ (IsTextOf outer (suc most) (done ++ b ∷ rest) all))
      (sym whole) same)
      (through (s.left most (b ∷ rest) all enough)
      (subst (λ x. (Finds found (λ others. Ahead outer done s.name standing b most rest others) all)
      ↔ (Finds (found ++ items) (λ others. LevelsLeft outer most front l.name next x rest others) all)) place
      (finds_more found items (λ others. Ahead outer done s.name standing b most rest others)
      (λ others. LevelsLeft outer most front l.name next (length done + 1) rest others) all
      (λ others. l.leads most rest others enough))));
}

outcome_if : (outer : Bracket) (IsBefore : ℕ → List ℕ → List (Item outer) → Type 0) (done : List ℕ)
    (b : ℕ) (one other : Step) (test : Bool) → (test ≡ true → Outcome outer IsBefore done [] b one)
    → (test ≡ false → Outcome outer IsBefore done [] b other)
    → Outcome outer IsBefore done [] b (if test then one else other)
outcome_if outer IsBefore done b one other true y n = y refl
outcome_if outer IsBefore done b one other false y n = n refl

space_no_opening : (outer : Bracket) (b : ℕ) → is_space b ≡ true → ¬ (b ≡ opening outer)
space_no_opening Array b space e = false≢true (subst (λ x. is_space x ≡ true) e space)
space_no_opening Object b space e = false≢true (subst (λ x. is_space x ≡ true) e space)

levels_same : {P Q : ℕ → Type 0} (most : ℕ) → ((levels : ℕ) → (P levels) ↔ (Q levels))
    → ((levels : ℕ) × (levels + 0 ≡ most) × P levels) ↔ ((levels : ℕ) × (levels + 0 ≡ most) × Q levels)
levels_same most f = (λ h. (h.0, h.1, (f h.0).0 h.2), λ h. (h.0, h.1, (f h.0).1 h.2))

no_items : {I : Type 0} (items : List I) (A : Type 0) (P : List I → Type 0) (others : List I) → items ≡ []
    → A ↔ (P others) → A ↔ (Finds items P others)
no_items items A P others e f = through f (
  λ p. (others, ap (λ x. x ++ others) (sym e), p),
  λ h. subst P (sym (h.1 ∙ ap (λ x. x ++ h.0) e)) h.2,
)

-- the scan stands so, where no inner bracket is open
abbrev standing_in : Region → Places → Standing
standing_in region places = record { region = region; inner = []; places = places }

-- a byte that ends nothing leads on to where what is left is what was left before it
leads_on : (outer : Bracket) (done name : List ℕ) (places : Places) (here to : Region) (b : ℕ)
    → places.name_from ≤ length done
    → FitsIn outer [] to → NamedIn (drop places.name_from (done ++ b ∷ [])) [] to
    → KnownRegion outer [] to (IsKnown (done ++ b ∷ []) places name)
    → ((most : ℕ) (rest : List ℕ) (others : List (Item outer))
    → (Ahead outer done name (standing_in here places) b most rest others)
    ↔ (LevelsLeft outer most (drop places.name_from (done ++ b ∷ [])) name (standing_in to places)
    (length done + 1) rest others))
    → Outcome outer (Ahead outer done name (standing_in here places) b) done [] b (goes (standing_in to places))
leads_on outer done name places here to b within fits named known left = (
  ([], refl),
  λ items adds. record {
    name = name;
    open_few = omega (arith);
    name_within = one_longer done b places.name_from within;
    fits = fits;
    named = named;
    known = known;
    leads = λ most rest others enough.
        no_items items (Ahead outer done name (standing_in here places) b most rest others)
        (λ last. LevelsLeft outer most (drop places.name_from (done ++ b ∷ [])) name (standing_in to places)
        (length done + 1) rest last) others adds (left most rest others);
  },
)

-- ---- before the outermost brackets, and behind them

before_on : (outer : Bracket) (done name : List ℕ) (places : Places) (b : ℕ)
    → places.name_from ≤ length done → is_space b ≡ true
    → Outcome outer (Ahead outer done name (standing_in Before places) b) done [] b (goes (standing_in Before places))
before_on outer done name places b within space =
    leads_on outer done name places Before Before b within refl tt tt
    (λ most rest others. levels_same most (λ levels.
    spaced_on (ByteThen (opening outer) (λ place text. FirstLeft (outermost outer levels) place text others))
    (length done) b rest space
    (λ place. byte_else (λ place text. FirstLeft (outermost outer levels) place text others) (opening outer) place
    b rest (space_no_opening outer b space))))

known_first : (outer : Bracket) (X : Type 0) → KnownBetween outer [] First X
known_first Array X = tt
known_first Object X = λ p. absurd p

before_opens : (outer : Bracket) (done name : List ℕ) (places : Places) (b : ℕ)
    → places.name_from ≤ length done → is_space b ≡ false → b ≡ opening outer
    → Outcome outer (Ahead outer done name (standing_in Before places) b) done [] b
    (goes (to_mode (standing_in Before places) First))
before_opens outer done name places b within tight opens =
    leads_on outer done name places Before (Between First) b within (fits_first outer) tt
    (known_first outer (IsKnown (done ++ b ∷ []) places name))
    (λ most rest others. levels_same most (λ levels. through
    (spaced_none (ByteThen (opening outer) (λ place text. FirstLeft (outermost outer levels) place text others))
    (length done) b rest tight)
    (byte_on (λ place text. FirstLeft (outermost outer levels) place text others) (opening outer)
    (length done) b rest opens)))

before_stops : (outer : Bracket) (done name : List ℕ) (places : Places) (b : ℕ) → is_space b ≡ false
    → ¬ (b ≡ opening outer)
    → Outcome outer (Ahead outer done name (standing_in Before places) b) done [] b step.Stops
before_stops outer done name places b tight other = λ most rest others enough h.
    byte_else (λ place text. FirstLeft (outermost outer h.0) place text others) (opening outer) (length done) b rest other
    ((spaced_none (ByteThen (opening outer) (λ place text. FirstLeft (outermost outer h.0) place text others))
    (length done) b rest tight).0 h.2)

before_right : (outer : Bracket) (done name : List ℕ) (places : Places) (b : ℕ)
    → places.name_from ≤ length done
    → Outcome outer (Ahead outer done name (standing_in Before places) b) done [] b (before outer (standing_in Before places) b)
before_right outer done name places b within =
    let source = Ahead outer done name (standing_in Before places) b in
    outcome_if outer source done b (goes (standing_in Before places))
    (if b == opening outer then goes (to_mode (standing_in Before places) First) else step.Stops) (is_space b)
    (before_on outer done name places b within)
    (λ tight. outcome_if outer source done b (goes (to_mode (standing_in Before places) First)) step.Stops
    (b == opening outer)
    (λ opens. before_opens outer done name places b within tight (eqb-true b (opening outer) opens))
    (λ other. before_stops outer done name places b tight (eqb-false b (opening outer) other)))

space_on : (b : ℕ) (text : List ℕ) → is_space b ≡ true → (IsSpace (b ∷ text)) ↔ (IsSpace text)
space_on b text space = (λ h. (and_parts _ _ h).1, λ h. and_from _ _ space h)

behind_on : (outer : Bracket) (done name : List ℕ) (places : Places) (b : ℕ)
    → places.name_from ≤ length done → is_space b ≡ true
    → Outcome outer (Ahead outer done name (standing_in Behind places) b) done [] b (goes (standing_in Behind places))
behind_on outer done name places b within space =
    leads_on outer done name places Behind Behind b within refl tt tt
    (λ most rest others. levels_same most (λ levels. (
      λ h. ((space_on b rest space).0 h.0, h.1),
      λ h. ((space_on b rest space).1 h.0, h.1),
    )))

behind_right : (outer : Bracket) (done name : List ℕ) (places : Places) (b : ℕ)
    → places.name_from ≤ length done
    → Outcome outer (Ahead outer done name (standing_in Behind places) b) done [] b (behind (standing_in Behind places) b)
behind_right outer done name places b within =
    outcome_if outer (Ahead outer done name (standing_in Behind places) b) done b (goes (standing_in Behind places)) step.Stops
    (is_space b) (behind_on outer done name places b within)
    (λ tight most rest others enough h. false≢true (sym tight ∙ (and_parts _ _ h.2.0).0))

read_region : (outer : Bracket) (done : List ℕ) (found : List (Item outer)) (region : Region)
    (inner : List Bracket) (places : Places) (b : ℕ)
    → (s : Stands outer done found (record { region = region; inner = inner; places = places }))
    → Outcome outer (Ahead outer done s.name (record { region = region; inner = inner; places = places }) b) done inner b
    (read_in outer (record { region = region; inner = inner; places = places }) (length done) b region)
read_region outer done found Before [] places b s =
    before_right outer done s.name places b s.name_within
read_region outer done found Before (c ∷ inner) places b s = absurd (omega (arith, ap (λ x. length x) s.fits))
read_region outer done found (Between mode) inner places b s =
    between_right outer done s.name inner places mode b (record {
      open_few = s.open_few;
      name_within = s.name_within;
      fits = s.fits;
      named = s.named;
      known = s.known;
    })
read_region outer done found Behind [] places b s =
    behind_right outer done s.name places b s.name_within
read_region outer done found Behind (c ∷ inner) places b s = absurd (omega (arith, ap (λ x. length x) s.fits))

-- What a byte does is right, from wherever a scan stands.
pub read_right : (outer : Bracket) (done : List ℕ) (found : List (Item outer)) (standing : Standing) (b : ℕ)
    → (s : Stands outer done found standing)
    → Outcome outer (Ahead outer done s.name standing b) done standing.inner b (read outer standing (length done) b)
read_right outer done found standing b s =
    read_region outer done found standing.region standing.inner standing.places b s
