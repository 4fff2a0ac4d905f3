-- What is known between the outermost brackets, and a byte there that ends nothing.
use Rattle.std.proofs.Common.{◌≡◌, ◌↔◌, ℕ, ◌≤◌, List, [], ◌∷◌, ◌++◌, length, drop, Option, None, refl, sym, ap, subst, ◌∙◌}
use Rattle.fk_json.specs.Moves.{innermost, most_inner}
use Rattle.fk_json.specs.Left.{Fits, Item}
use Rattle.fk_json.specs.Remainder.{IsKnown, NameRest, pending_of}
use Rattle.fk_json.specs.declared.mode.Bracket.{Bracket}
use Rattle.fk_json.specs.declared.mode.Mode.{Mode}
use Rattle.fk_json.specs.Moves.{Move}
use Rattle.fk_json.specs.Moves.{To, Names, Begins, Opens, Closes, Named, Ended, Stops}
use Rattle.fk_json.specs.declared.standing.Places.{Places}
use Rattle.fk_json.specs.declared.string_mode.StringMode.{StringMode}
use Rattle.fk_json.specs.Reached.{Finds, IsNamed, KnownBetween}
use Rattle.fk_json.proofs.Leads.{BetweenLeft, MovedLeft}
use Rattle.fk_json.proofs.Stands.{GoesOn}
use Rattle.fk_json.proofs.Outcomes.{Source}
use Rattle.fk_json.proofs.Stages.{Stage}
use Rattle.fk_json.proofs.Equivalences.{through}
use Rattle.fk_json.proofs.Tame.{IsTame, IsWithin, LedName}

-- what is left before a byte between the outermost brackets
abbrev pub Here : (outer : Bracket) → List ℕ → List ℕ → List Bracket → Places → Mode → ℕ → Source outer
Here outer done name inner places mode b = λ most rest others.
    BetweenLeft outer most (drop places.name_from done) (pending_of name places) inner mode (length done)
    (b ∷ rest) others

pub finds_none : {I : Type 0} (items : List I) (P : List I → Type 0) (others : List I) → items ≡ []
    → (P others) ↔ (Finds items P others)
finds_none items P others e = (
  λ p. (others, ap (λ x. x ++ others) (sym e), p),
  λ h. subst P (sym (h.1 ∙ ap (λ x. x ++ h.0) e)) h.2,
)

-- ---- what is known between the brackets

pub record Known (outer : Bracket) (done : List ℕ) (name : List ℕ) (inner : List Bracket)
    (places : Places) (mode : Mode) : Type 0 where
  pub open_few : length inner ≤ most_inner
  pub name_within : places.name_from ≤ length done
  pub fits : Fits (innermost outer inner) mode
  pub named : IsNamed mode (NameRest (drop places.name_from done) inner mode)
  pub known : KnownBetween outer inner mode (IsKnown done places name)

-- what the move leaves is what was left before the byte
abbrev pub MovesTo : (outer : Bracket) → List ℕ → List ℕ → List Bracket → Places → Mode → ℕ → Move → Type 0
MovesTo outer done name inner places mode b move =
    (most : ℕ) (rest : List ℕ) (others : List (Item outer))
    → (Here outer done name inner places mode b most rest others)
    ↔ (MovedLeft outer most (drop places.name_from done) (pending_of name places) inner mode (length done) b rest
    others move)

-- the first stage: nothing has ended
pub plain_stage : (outer : Bracket) (done name : List ℕ) (inner : List Bracket) (places : Places) (mode : Mode)
    (b : ℕ) (move : Move) → Known outer done name inner places mode
    → MovesTo outer done name inner places mode b move → IsTame (innermost outer inner) mode b move
    → Stage outer (Here outer done name inner places mode b) done inner places mode b None move
plain_stage outer done name inner places mode b move k moves t = record {
  name = name;
  open_few = k.open_few;
  name_within = k.name_within;
  named = k.named;
  known = k.known;
  tame = t;
  has = ([], refl);
  left = λ items adds most rest others enough.
      through (moves most rest others)
      (finds_none items (λ last. MovedLeft outer most (drop places.name_from done) (pending_of name places) inner mode
      (length done) b rest last move) others adds);
}

pub goes_on_from : (bracket : Bracket) (mode : Mode) (b : ℕ) (move : Move) → ¬ IsWithin mode
    → ((led : Option StringMode) → ¬ LedName mode b led) → IsTame bracket mode b move → GoesOn move
goes_on_from bracket mode b (To to) no_value no_name t = tt
goes_on_from bracket mode b Names no_value no_name t = tt
goes_on_from bracket mode b (Begins token) no_value no_name t = tt
goes_on_from bracket mode b (Opens c) no_value no_name t = tt
goes_on_from bracket mode b Closes no_value no_name t = tt
goes_on_from bracket mode b Named no_value no_name t = no_name None t.0
goes_on_from bracket mode b Ended no_value no_name t = no_value t
goes_on_from bracket mode b Stops no_value no_name t = tt
