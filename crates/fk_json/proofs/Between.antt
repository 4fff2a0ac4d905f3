-- One byte between the outermost brackets, from where a scan stands: what it ends, and where it leads.
use Rattle.std.proofs.Common.{ℕ, List, length, drop, None}
use Rattle.fk_json.specs.Moves.{innermost, move_of}
use Rattle.fk_json.specs.Standing.{between, between_by, found_in}
use Rattle.fk_json.specs.Remainder.{pending_of}
use Rattle.fk_json.specs.declared.mode.Bracket.{Bracket}
use Rattle.fk_json.specs.declared.mode.Mode.{Mode}
use Rattle.fk_json.specs.declared.mode.Mode.TheVariants.{Colon, After}
use Rattle.fk_json.specs.Moves.{Move}
use Rattle.fk_json.specs.Moves.{To, Names, Begins, Opens, Closes, Named, Ended, Stops}
use Rattle.fk_json.specs.declared.standing.Places.{Places}
use Rattle.fk_json.specs.declared.standing.Region.TheVariants.{Between}
use Rattle.fk_json.proofs.Leads.{between_moves}
use Rattle.fk_json.proofs.Outcomes.{Outcome}
use Rattle.fk_json.proofs.Stages.{between_at}
use Rattle.fk_json.proofs.Stands.{moved_right}
use Rattle.fk_json.proofs.Tame.{IsTame, tame}
use Rattle.fk_json.proofs.KnownBetween.{Here, Known, MovesTo, goes_on_from, plain_stage}
use Rattle.fk_json.proofs.ValueEnded.{ended_stage, fits_after}
use Rattle.fk_json.proofs.NameEnded.{fits_colon, named_places, named_stage}

moves_right : (outer : Bracket) (done name : List ℕ) (inner : List Bracket) (places : Places) (mode : Mode)
    (b : ℕ) (move : Move) → Known outer done name inner places mode
    → MovesTo outer done name inner places mode b move → IsTame (innermost outer inner) mode b move
    → Outcome outer (Here outer done name inner places mode b) done inner b
    (between_by (innermost outer inner) (between_at inner places mode) (length done) b move)
moves_right outer done name inner places mode b (To to) k moves t =
    moved_right outer (Here outer done name inner places mode b) done (Between mode) inner places mode b None (To to) tt
    (plain_stage outer done name inner places mode b (To to) k moves t)
moves_right outer done name inner places mode b Names k moves t =
    moved_right outer (Here outer done name inner places mode b) done (Between mode) inner places mode b None Names tt
    (plain_stage outer done name inner places mode b Names k moves t)
moves_right outer done name inner places mode b (Begins token) k moves t =
    moved_right outer (Here outer done name inner places mode b) done (Between mode) inner places mode b None (Begins token) tt
    (plain_stage outer done name inner places mode b (Begins token) k moves t)
moves_right outer done name inner places mode b (Opens c) k moves t =
    moved_right outer (Here outer done name inner places mode b) done (Between mode) inner places mode b None (Opens c) tt
    (plain_stage outer done name inner places mode b (Opens c) k moves t)
moves_right outer done name inner places mode b Closes k moves t =
    moved_right outer (Here outer done name inner places mode b) done (Between mode) inner places mode b None Closes tt
    (plain_stage outer done name inner places mode b Closes k moves t)
moves_right outer done name inner places mode b Named k moves t =
    moved_right outer (Here outer done name inner places mode b) done (Between mode) inner
    (named_places inner places (length done)) Colon b None (move_of (innermost outer inner) Colon b)
    (goes_on_from (innermost outer inner) Colon b (move_of (innermost outer inner) Colon b) (λ w. w) (λ led l. l)
    (tame (innermost outer inner) Colon b (fits_colon (innermost outer inner) t.2)))
    (named_stage outer done name inner places mode b k moves t.1 t.2)
moves_right outer done name inner places mode b Ended k moves t =
    moved_right outer (Here outer done name inner places mode b) done (Between mode) inner places After b
    (found_in inner (record { places = places; to = length done })) (move_of (innermost outer inner) After b)
    (goes_on_from (innermost outer inner) After b (move_of (innermost outer inner) After b) (λ w. w) (λ led l. l)
    (tame (innermost outer inner) After b (fits_after (innermost outer inner))))
    (ended_stage outer done name inner places mode b k moves t)
moves_right outer done name inner places mode b Stops k moves t =
    moved_right outer (Here outer done name inner places mode b) done (Between mode) inner places mode b None Stops tt
    (plain_stage outer done name inner places mode b Stops k moves t)

pub between_right : (outer : Bracket) (done name : List ℕ) (inner : List Bracket) (places : Places) (mode : Mode)
    (b : ℕ) → Known outer done name inner places mode
    → Outcome outer (Here outer done name inner places mode b) done inner b
    (between outer (between_at inner places mode) mode (length done) b)
between_right outer done name inner places mode b k =
    moves_right outer done name inner places mode b (move_of (innermost outer inner) mode b) k
    (λ most rest others. between_moves outer most (drop places.name_from done) (pending_of name places) inner mode
    (length done) b rest others k.fits k.named)
    (tame (innermost outer inner) mode b k.fits)
