-- Reading a text byte by byte: from its start to its end, and where it stops.
use Rattle.std.proofs.Common.{◌≡◌, ◌↔◌, ℕ, zero, suc, ◌+◌, ◌≤◌, true, false, List, [], ◌++◌, length, drop, refl, sym, ap, subst, ◌∙◌, arith}
use Rattle.std.proofs.lemmas.Bool.{false≢true}
use Rattle.std.proofs.lemmas.List.{append-nil}
use Rattle.fk_json.specs.Moves.{most_inner, opening}
use Rattle.fk_json.specs.Left.{ByteThen, FirstLeft, Item, Spaced, outermost}
use Rattle.fk_json.specs.Standing.{first_standing, is_whole}
use Rattle.fk_json.specs.Remainder.{IsTextOf, LevelsLeft, RegionLeft, pending_of}
use Rattle.fk_json.specs.declared.mode.Bracket.{Bracket}
use Rattle.fk_json.specs.declared.mode.Bracket.TheVariants.{Array, Object}
use Rattle.fk_json.specs.declared.standing.Places.{Places}
use Rattle.fk_json.specs.declared.standing.Region.{Region}
use Rattle.fk_json.specs.declared.standing.Region.TheVariants.{Before, Between, Behind}
use Rattle.fk_json.specs.declared.standing.Standing.{Standing}
use Rattle.fk_json.specs.Reached.{Finds, FitsIn, NamedIn, Stands}
use Rattle.fk_json.proofs.Completes.{before_completes, between_completes}
use Rattle.fk_json.proofs.Leads.{between_ends}
use Rattle.fk_json.proofs.OutermostBrackets.{array_text_opened, object_text_opened}
use Rattle.fk_json.proofs.Spaces.{byte_nil, spaced_nil}
use Rattle.fk_json.proofs.Equivalences.{same, through}

-- ---- the start

text_opened : (outer : Bracket) (levels : ℕ) (text : List ℕ) (items : List (Item outer))
    → (IsTextOf outer (suc levels) text items)
    ↔ (Spaced (ByteThen (opening outer) (λ place rest. FirstLeft (outermost outer levels) place rest items)) 0 text)
text_opened Array levels text items = array_text_opened levels text items
text_opened Object levels text items = object_text_opened levels text items

at_levels : (P : ℕ → Type 0) (most : ℕ) → (P most) ↔ ((levels : ℕ) × (levels + 0 ≡ most) × P levels)
at_levels P most = (
  λ p. (most, omega (arith), p),
  λ h. let e : h.0 ≡ most = omega (arith, h.1) in subst P e h.2,
)

finds_all : {I : Type 0} (P : List I → Type 0) (all : List I) → (P all) ↔ (Finds [] P all)
finds_all P all = (λ p. (all, refl, p), λ h. subst P (sym h.1) h.2)

pub starts : (outer : Bracket) → Stands outer [] [] first_standing
starts outer = record {
  name = [];
  open_few = omega (arith);
  name_within = omega (arith);
  fits = refl;
  named = tt;
  known = tt;
  left = λ most rest all enough.
      through (text_opened outer most rest all)
      (through (at_levels (λ levels. Spaced (ByteThen (opening outer)
      (λ place text. FirstLeft (outermost outer levels) place text all)) 0 rest) most)
      (finds_all (λ others. LevelsLeft outer most [] [] first_standing 0 rest others) all));
}

-- ---- the end

ends_region : (outer : Bracket) (most : ℕ) (front : List ℕ) (name : List ℕ) (region : Region)
    (inner : List Bracket) (places : Places) (at : ℕ) (found : List (Item outer)) → is_whole region ≡ false
    → ¬ LevelsLeft outer most front name (record { region = region; inner = inner; places = places }) at [] found
ends_region outer most front name Before inner places at found is h =
    byte_nil (λ place text. FirstLeft (outermost outer h.0) place text found) (opening outer) at
    ((spaced_nil (ByteThen (opening outer) (λ place text. FirstLeft (outermost outer h.0) place text found)) at).0 h.2)
ends_region outer most front name (Between mode) inner places at found is h =
    between_ends outer most front (pending_of name places) inner mode at found h
ends_region outer most front name Behind inner places at found is h = false≢true (sym is)

ends_whole : (outer : Bracket) (most : ℕ) (front : List ℕ) (name : List ℕ) (region : Region)
    (inner : List Bracket) (places : Places) (at : ℕ) (found : List (Item outer)) → is_whole region ≡ true
    → FitsIn outer inner region
    → (LevelsLeft outer most front name (record { region = region; inner = inner; places = places }) at [] found)
    ↔ (found ≡ [])
ends_whole outer most front name Before inner places at found is fits = absurd (false≢true is)
ends_whole outer most front name (Between mode) inner places at found is fits = absurd (false≢true is)
ends_whole outer most front name Behind inner places at found is fits = (
  λ h. h.2.1,
  λ e. (most, omega (arith, ap (λ x. length x) fits), (refl, e)),
)

-- The text is whole: the items found are its items, and it has no others.
pub whole_text : (outer : Bracket) (done : List ℕ) (found : List (Item outer)) (standing : Standing) (most : ℕ)
    (all : List (Item outer)) → most_inner ≤ most → is_whole standing.region ≡ true
    → Stands outer done found standing → (IsTextOf outer (suc most) done all) ↔ (all ≡ found)
whole_text outer done found standing most all enough is s =
    let front = drop standing.places.name_from done in
    let left = ends_whole outer most front s.name standing.region standing.inner standing.places (length done) in
    let h = s.left most [] all enough in
    through (subst (λ x. (IsTextOf outer (suc most) x all) ↔ (IsTextOf outer (suc most) (done ++ []) all))
    (append-nil done) same)
    (through h (
      λ (others, e, l). e ∙ ap (λ x. found ++ x) ((left others is s.fits).0 l) ∙ append-nil found,
      λ e. ([], e ∙ sym (append-nil found), (left [] is s.fits).1 refl),
    ))

-- no text ends where a scan isn't behind the outermost brackets
pub unfinished : (outer : Bracket) (done : List ℕ) (found : List (Item outer)) (standing : Standing) (most : ℕ)
    (all : List (Item outer)) → most_inner ≤ most → is_whole standing.region ≡ false
    → Stands outer done found standing → ¬ IsTextOf outer (suc most) done all
unfinished outer done found standing most all enough is s h =
    let left = (s.left most [] all enough).0
    (subst (λ x. IsTextOf outer (suc most) x all) (sym (append-nil done)) h) in
    ends_region outer most (drop standing.places.name_from done) s.name standing.region standing.inner
    standing.places (length done) left.0 is left.2

-- ---- to some end

completes_region : (outer : Bracket) (levels : ℕ) (front name : List ℕ) (region : Region)
    (inner : List Bracket) (places : Places) (at : ℕ) → FitsIn outer inner region → NamedIn front inner region
    → (text : List ℕ) × (found : List (Item outer))
    × RegionLeft outer levels front (pending_of name places) inner region at text found
completes_region outer levels front name Before inner places at fits named = before_completes outer levels at
completes_region outer levels front name (Between mode) inner places at fits named =
    between_completes outer levels front (pending_of name places) inner mode at fits named
completes_region outer levels front name Behind inner places at fits named = ([], [], (refl, refl))

levels_for : (count most : ℕ) → count ≤ most → (levels : ℕ) × (levels + count ≡ most)
levels_for zero most l = (most, omega (arith))
levels_for (suc count) zero l = absurd (omega (arith, l))
levels_for (suc count) (suc most) l =
    let h = levels_for count most (omega (arith, l)) in
    (h.0, omega (arith, h.1))

-- what was read begins a text
pub completes_text : (outer : Bracket) (done : List ℕ) (found : List (Item outer)) (standing : Standing) (most : ℕ)
    → most_inner ≤ most → Stands outer done found standing
    → (rest : List ℕ) × (all : List (Item outer)) × IsTextOf outer (suc most) (done ++ rest) all
completes_text outer done found standing most enough s =
    let front = drop standing.places.name_from done in
    let (levels, e) = levels_for (length standing.inner) most (omega (arith, s.open_few, enough)) in
    let (rest, others, left) = completes_region outer levels front s.name standing.region standing.inner
    standing.places (length done) s.fits s.named in
    (rest, found ++ others, (s.left most rest (found ++ others) enough).1 (others, refl, (levels, e, left)))
