-- Where a scan stands in a text, and how a byte leads on.
use Rattle.std.specs.Prelude.{◌==◌, ℕ, nat_le, Bool, true, false, if◌then◌else◌, List, [], ◌∷◌, length, Option, None, Some}
use Rattle.fk_json.specs.Json.{is_space}
use Rattle.fk_json.specs.Moves.{innermost, most_inner, move_of, opening}
use Rattle.fk_json.specs.declared.mode.Bracket.{Bracket}
use Rattle.fk_json.specs.declared.mode.Mode.{Mode}
use Rattle.fk_json.specs.declared.mode.Mode.TheVariants.{First, Naming, Colon, Within, After}
use Rattle.fk_json.specs.Moves.{Move}
use Rattle.fk_json.specs.Moves.{To, Names, Begins, Opens, Closes, Named, Ended, Stops}
use Rattle.fk_json.specs.declared.standing.Places.{Places}
use Rattle.fk_json.specs.declared.standing.Found.{Found}
use Rattle.fk_json.specs.declared.standing.Region.{Region}
use Rattle.fk_json.specs.declared.standing.Region.TheVariants.{Before, Between, Behind}
use Rattle.fk_json.specs.declared.standing.Standing.{Standing}
use Rattle.fk_json.specs.Step.{Step}
use Rattle.fk_json.specs.Step as step
use Rattle.fk_json.specs.declared.string_mode.StringMode.TheVariants.{Inside}
use Rattle.fk_json.specs.declared.token.Token.TheVariants.{Bracketed}

abbrev pub first_standing : Standing
first_standing = record {
  region = Before;
  inner = [];
  places = record { name_from = 0; name_to = 0; from = 0 };
}

abbrev pub goes : Standing → Step
goes standing = step.Goes standing None

abbrev pub to_mode : Standing → Mode → Standing
to_mode standing mode = record standing { region = Between mode }

abbrev pub before : Bracket → Standing → ℕ → Step
before outer standing byte =
    if is_space byte then goes standing
    else if byte == opening outer then goes (to_mode standing First)
    else step.Stops

abbrev pub behind : Standing → ℕ → Step
behind standing byte = if is_space byte then goes standing else step.Stops

-- places that are noted where no inner bracket is open
abbrev pub placed : List Bracket → Places → Places → Places
placed [] noted places = noted
placed (bracket ∷ inner) noted places = places

abbrev pub named_at : Standing → ℕ → Standing
named_at standing at = record standing {
  places = placed standing.inner (record (standing.places) { name_to = at }) standing.places;
}

abbrev pub names_at : Standing → ℕ → Standing
names_at standing at = record standing {
  places = placed standing.inner (record (standing.places) { name_from = at }) standing.places;
}

abbrev pub begun_at : Standing → ℕ → Standing
begun_at standing at = record standing {
  places = placed standing.inner (record (standing.places) { from = at }) standing.places;
}

abbrev pub found_in : List Bracket → Found → Option Found
found_in [] found = Some found
found_in (bracket ∷ inner) found = None

abbrev pub ended_at : Standing → ℕ → Option Found
ended_at standing at = found_in standing.inner (record { places = standing.places; to = at })

abbrev pub opened : Standing → Option Found → Bracket → Step
opened standing found bracket =
    if nat_le most_inner (length standing.inner) then step.TooDeep
    else step.Goes (record standing { region = Between First; inner = bracket ∷ standing.inner }) found

abbrev pub closed_in : List Bracket → Places → Standing
closed_in [] places = record { region = Behind; inner = []; places = places }
closed_in (bracket ∷ inner) places =
    record { region = Between (Within Bracketed); inner = inner; places = places }

abbrev pub closed : Standing → Standing
closed standing = closed_in standing.inner standing.places

abbrev pub moved : Standing → Option Found → ℕ → Move → Step
moved standing found at (To mode) = step.Goes (to_mode standing mode) found
moved standing found at Names = step.Goes (to_mode (names_at standing at) (Naming Inside)) found
moved standing found at (Begins token) =
    step.Goes (to_mode (begun_at standing at) (Within token)) found
moved standing found at (Opens bracket) = opened (begun_at standing at) found bracket
moved standing found at Closes = step.Goes (closed standing) found
moved standing found at Named = step.Stops
moved standing found at Ended = step.Stops
moved standing found at Stops = step.Stops

-- a byte that stands behind a name or a value has ended it
abbrev pub between_by : Bracket → Standing → ℕ → ℕ → Move → Step
between_by bracket standing at byte Named =
    moved (named_at standing at) None at (move_of bracket Colon byte)
between_by bracket standing at byte Ended =
    moved standing (ended_at standing at) at (move_of bracket After byte)
between_by bracket standing at byte move = moved standing None at move

abbrev pub between : Bracket → Standing → Mode → ℕ → ℕ → Step
between outer standing mode at byte =
    let bracket = innermost outer standing.inner in
    between_by bracket standing at byte (move_of bracket mode byte)

abbrev pub read_in : Bracket → Standing → ℕ → ℕ → Region → Step
read_in outer standing at byte Before = before outer standing byte
read_in outer standing at byte (Between mode) = between outer standing mode at byte
read_in outer standing at byte Behind = behind standing byte

-- what the byte at a place does
abbrev pub read : Bracket → Standing → ℕ → ℕ → Step
read outer standing at byte = read_in outer standing at byte standing.region

-- whether the text may end there
abbrev pub is_whole : Region → Bool
is_whole Before = false
is_whole (Between mode) = false
is_whole Behind = true
