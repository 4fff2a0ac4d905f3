-- Where a text stops being one: the place of a fault.
use Rattle.std.proofs.Common.{◌≡◌, ℕ, zero, suc, ◌+◌, ◌-◌, ◌≤◌, ◌<◌, false, List, [], ◌∷◌, ◌++◌, length, take, refl, sym, ap, subst, ◌∙◌, arith}
use Rattle.std.proofs.Math.Seq.{take-append-add, take-append_seam, take-length}
use Rattle.std.proofs.lemmas.List.{append_assoc, length-append}
use Rattle.fk_json.specs.Json.{Begins, BeginsSome, FailsAt, IsTooDeepAt, most_levels}
use Rattle.fk_json.specs.Moves.{most_inner}
use Rattle.fk_json.specs.Left.{Fits, Item}
use Rattle.fk_json.specs.Standing.{is_whole}
use Rattle.fk_json.specs.Remainder.{IsTextOf}
use Rattle.fk_json.specs.declared.mode.Bracket.{Bracket}
use Rattle.fk_json.specs.declared.mode.Bracket.TheVariants.{Array, Object}
use Rattle.fk_json.specs.declared.mode.Mode.TheVariants.{First}
use Rattle.fk_json.specs.declared.standing.Standing.{Standing}
use Rattle.fk_json.specs.Step as step
use Rattle.fk_json.specs.Reached.{Stands}
use Rattle.fk_json.proofs.Completes.{between_completes}
use Rattle.fk_json.proofs.Levels.{array_more, object_more}
use Rattle.fk_json.proofs.ReadingOn.{Ahead}
use Rattle.fk_json.proofs.Readings.{completes_text, unfinished}
use Rattle.fk_json.proofs.Outcomes.{Outcome}

-- a text of so many levels is one of more
more : (outer : Bracket) (levels most : ℕ) (text : List ℕ) (items : List (Item outer)) → levels ≤ most
    → IsTextOf outer levels text items → IsTextOf outer most text items
more Array levels most text items l is = array_more levels most text items l is
more Object levels most text items l is = object_more levels most text items l is

-- no text goes on with the byte behind what was read
abbrev pub NoneGoesOn : Bracket → List ℕ → ℕ → Type 0
NoneGoesOn outer done b =
    (most : ℕ) (rest : List ℕ) (items : List (Item outer)) → most_inner ≤ most
    → ¬ IsTextOf outer (suc most) (done ++ b ∷ rest) items

none_at_all : (outer : Bracket) (done : List ℕ) (b levels : ℕ) (rest : List ℕ) (items : List (Item outer))
    → NoneGoesOn outer done b → ¬ IsTextOf outer levels (done ++ b ∷ rest) items
none_at_all outer done b levels rest items none is =
    none (levels + most_inner) rest items (omega (arith))
    (more outer levels (suc (levels + most_inner)) (done ++ b ∷ rest) items (omega (arith)) is)

take_longer : (done : List ℕ) (b count : ℕ) (rest : List ℕ)
    → take (length done + suc count) (done ++ b ∷ rest) ≡ done ++ b ∷ take count rest
take_longer done b count rest = take-append-add done (b ∷ rest) (suc count)

none_longer : (outer : Bracket) (done : List ℕ) (b longer : ℕ) (rest : List ℕ) → NoneGoesOn outer done b
    → length done < longer → ¬ BeginsSome (IsTextOf outer) (take longer (done ++ b ∷ rest))
none_longer outer done b longer rest none l (levels, (after, items, is)) =
    let count = longer - suc (length done) in
    let e : length done + suc count ≡ longer = omega (arith, l) in
    let front : take longer (done ++ b ∷ rest) ≡ done ++ b ∷ take count rest =
    subst (λ n. take n (done ++ b ∷ rest) ≡ done ++ b ∷ take count rest) e (take_longer done b count rest) in
    none_at_all outer done b levels (take count rest ++ after) items none
    (subst (λ x. IsTextOf outer levels x items)
    (ap (λ x. x ++ after) front ∙ append_assoc done (b ∷ take count rest) after) is)

-- a byte that can't stand there
pub fails_at : (outer : Bracket) (done : List ℕ) (found : List (Item outer)) (standing : Standing) (b : ℕ)
    (rest : List ℕ) → (s : Stands outer done found standing)
    → Outcome outer (Ahead outer done s.name standing b) done standing.inner b step.Stops
    → FailsAt (IsTextOf outer) (done ++ b ∷ rest) (length done)
fails_at outer done found standing b rest s stops =
    let none : NoneGoesOn outer done b = λ most after items enough is.
    let h = (s.left most (b ∷ after) items enough).0 is in
    stops most after h.0 enough h.2 in
    record {
      inside = omega (arith, length-append done (b ∷ rest));
      begins = subst (Begins (IsTextOf outer) most_levels) (sym (take-append_seam done (b ∷ rest)))
          (completes_text outer done found standing most_inner (omega (arith)) s);
      longest = λ longer l within. none_longer outer done b longer rest none l;
      none = λ levels items. none_at_all outer done b levels rest items none;
    }

-- the end of a text that isn't whole
pub ends_early : (outer : Bracket) (done : List ℕ) (found : List (Item outer)) (standing : Standing)
    → is_whole standing.region ≡ false → Stands outer done found standing
    → FailsAt (IsTextOf outer) done (length done)
ends_early outer done found standing is s = record {
  inside = omega (arith);
  begins = subst (Begins (IsTextOf outer) most_levels) (sym (take-length done))
      (completes_text outer done found standing most_inner (omega (arith)) s);
  longest = λ longer l within. absurd (omega (arith, l, within));
  none = λ levels items h.
      unfinished outer done found standing (levels + most_inner) items (omega (arith)) is s
      (more outer levels (suc (levels + most_inner)) done items (omega (arith)) h);
}

fits_first : (bracket : Bracket) → Fits bracket First
fits_first Array = tt
fits_first Object = tt

one_more : (done : List ℕ) (b : ℕ) (rest : List ℕ)
    → take (length done + 1) (done ++ b ∷ rest) ≡ done ++ b ∷ []
one_more done b rest = take-append-add done (b ∷ rest) 1

-- with one level more the text would go on
deep_end : (outer : Bracket) (done : List ℕ) (standing : Standing) (b : ℕ) (name : List ℕ)
    → Outcome outer (Ahead outer done name standing b) done standing.inner b step.TooDeep
    → (rest : List ℕ) × ((others : List (Item outer)) × Ahead outer done name standing b (suc most_inner) rest others)
deep_end outer done standing b name (none, grown, pending, c, later, full) =
    let (rest, last, left) = between_completes outer zero grown pending (c ∷ standing.inner) First (length done + 1)
    (fits_first c) tt in
    (rest, later rest last (zero, omega (arith, full), left))

-- a bracket that opens a level too many
pub too_deep_at : (outer : Bracket) (done : List ℕ) (found : List (Item outer)) (standing : Standing) (b : ℕ)
    (rest : List ℕ) → (s : Stands outer done found standing)
    → Outcome outer (Ahead outer done s.name standing b) done standing.inner b step.TooDeep
    → IsTooDeepAt (IsTextOf outer) (done ++ b ∷ rest) (length done)
too_deep_at outer done found standing b rest s deep =
    let front = one_more done b rest in
    let (levels, later) = deep_end outer done standing b s.name deep in
    record {
      inside = omega (arith, length-append done (b ∷ rest));
      begins = subst (Begins (IsTextOf outer) most_levels) (sym (take-append_seam done (b ∷ rest)))
          (completes_text outer done found standing most_inner (omega (arith)) s);
      goes_on = subst (BeginsSome (IsTextOf outer)) (sym front) (
        suc (suc most_inner),
        (
          levels,
          found ++ later.0,
          subst (λ x. IsTextOf outer (suc (suc most_inner)) x (found ++ later.0))
              (sym (append_assoc done (b ∷ []) levels))
              ((s.left (suc most_inner) (b ∷ levels) (found ++ later.0) (omega (arith))).1 (later.0, refl, later.1)),
        ),
      );
      too_deep = λ h.
          let (after, items, is) = subst (Begins (IsTextOf outer) most_levels) front h in
          let left = (s.left most_inner (b ∷ after) items (omega (arith))).0
          (subst (λ x. IsTextOf outer most_levels x items) (append_assoc done (b ∷ []) after) is) in
          deep.0 after left.0 left.2;
    }
