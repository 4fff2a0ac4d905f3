-- Where a scan stands behind the bytes that it has read: what is left is what makes the whole a text.
use Rattle.std.proofs.Common.{ℕ, List, length, Option, refl}
use Rattle.std.specs.Prelude.{nat_le}
use Rattle.fk_json.specs.Moves.{most_inner}
use Rattle.fk_json.specs.Standing.{moved}
use Rattle.fk_json.specs.declared.mode.Bracket.{Bracket}
use Rattle.fk_json.specs.declared.mode.Mode.{Mode}
use Rattle.fk_json.specs.Moves.{Move}
use Rattle.fk_json.specs.Moves.{To, Names, Begins, Opens, Closes, Named, Ended, Stops}
use Rattle.fk_json.specs.declared.standing.Found.{Found}
use Rattle.fk_json.specs.declared.standing.Places.{Places}
use Rattle.fk_json.specs.declared.standing.Region.{Region}
use Rattle.fk_json.specs.Step as step
use Rattle.fk_json.proofs.Outcomes.{Outcome, Source}
use Rattle.fk_json.proofs.Stages.{Stage, leads_begins, leads_names, leads_to}
use Rattle.fk_json.proofs.BracketStages.{leads_closes, opened_by}

-- it isn't that a name or a value has ended
abbrev pub GoesOn : Move → Type 0
GoesOn Named = ⊥
GoesOn Ended = ⊥
GoesOn move = Unit {0}

stops : (outer : Bracket) (IsBefore : Source outer) (done : List ℕ) (inner : List Bracket)
    (places : Places) (mode : Mode) (b : ℕ) (item : Option Found)
    → Stage outer IsBefore done inner places mode b item Stops
    → Outcome outer IsBefore done inner b step.Stops
stops outer IsBefore done inner places mode b item s =
    λ most rest others enough before.
    let h = (s.left s.has.0 s.has.1 most rest others enough).0 before in
    h.2.2

pub moved_right : (outer : Bracket) (IsBefore : Source outer) (done : List ℕ) (region : Region)
    (inner : List Bracket) (places : Places) (mode : Mode) (b : ℕ) (item : Option Found) (move : Move)
    → GoesOn move → Stage outer IsBefore done inner places mode b item move
    → Outcome outer IsBefore done inner b
    (moved (record { region = region; inner = inner; places = places }) item (length done) move)
moved_right outer IsBefore done region inner places mode b item (To to) on s =
    leads_to outer IsBefore done inner places mode to b item s
moved_right outer IsBefore done region inner places mode b item Names on s =
    leads_names outer IsBefore done inner places mode b item s
moved_right outer IsBefore done region inner places mode b item (Begins token) on s =
    leads_begins outer IsBefore done inner places mode token b item s
moved_right outer IsBefore done region inner places mode b item (Opens c) on s =
    opened_by outer IsBefore done inner places mode c b item (nat_le most_inner (length inner)) refl s
moved_right outer IsBefore done region inner places mode b item Closes on s =
    leads_closes outer IsBefore done inner places mode b item s
moved_right outer IsBefore done region inner places mode b item Named on s = absurd on
moved_right outer IsBefore done region inner places mode b item Ended on s = absurd on
moved_right outer IsBefore done region inner places mode b item Stops on s =
    stops outer IsBefore done inner places mode b item s
