-- The first line of the bytes at hand is heard, and the talk comes as far as that line brings it.
use Rattle.std.proofs.Common.{◌≡◌, ◌≢◌, ℕ, Bool, true, false, List, [], ◌∷◌, None, Some, if◌then◌else◌, refl, subst}
use Rattle.fk_frame.specs.declared.line_reader.Line.TheVariants.{Whole}
use Rattle.fk_frame.specs.Reading.{HasLongLine, IsFirstLine}
use Rattle.fk_model.specs.declared.gate.Gate.{Gate}
use Rattle.fk_model.specs.declared.item.Item.{Item}
use Rattle.fk_model.specs.Script.{AreItemsOf, ends_talk, speaker_after, too_long}
use Rattle.fk_talk.specs.declared.standing.Standing.{Standing}
use Rattle.fk_talk.specs.declared.standing.Standing.TheVariants.{Nobody, Somebody, Over}
use Rattle.fk_talk.specs.Advance.{Advances}
use Rattle.fk_talk.specs.Hearing.{AreHeard, standing_after, standing_of}
use Rattle.fk_talk.proofs.Advance.{by_long_line, by_whole_last_line, by_whole_line}

-- who was let in stays
speaker_stays : (gate : Gate) (wid line : List ℕ) → speaker_after gate (Some wid) (Whole line) ≡ Some wid
unfolding speaker_after
speaker_stays gate wid line = refl

-- a line is heard by nobody yet let in, and it ends the talk or doesn't
nobody_hears : (gate : Gate) (bytes line rest : List ℕ) (items : List Item) (ends : Bool)
    → IsFirstLine bytes line rest → AreItemsOf gate None (Whole line) items
    → ends_talk gate None (Whole line) ≡ ends
    → Advances gate Nobody bytes items
    (if ends then Over else standing_of (speaker_after gate None (Whole line))) rest
nobody_hears gate bytes line rest items true is given ends =
    by_whole_last_line gate None bytes line items rest rest is ends given
nobody_hears gate bytes line rest items false is given going =
    by_whole_line gate None bytes line items rest is going given

somebody_hears : (gate : Gate) (wid bytes line rest : List ℕ) (items : List Item) (ends : Bool)
    → IsFirstLine bytes line rest → AreItemsOf gate (Some wid) (Whole line) items
    → ends_talk gate (Some wid) (Whole line) ≡ ends
    → Advances gate (Somebody wid) bytes items (if ends then Over else Somebody wid) rest
somebody_hears gate wid bytes line rest items true is given ends =
    by_whole_last_line gate (Some wid) bytes line items rest rest is ends given
somebody_hears gate wid bytes line rest items false is given going =
    subst (λ speaker. Advances gate (Somebody wid) bytes items (standing_of speaker) rest)
    (speaker_stays gate wid line) (by_whole_line gate (Some wid) bytes line items rest is going given)

-- a whole line is heard
pub by_heard : (gate : Gate) (standing : Standing) (bytes line rest : List ℕ) (items : List Item)
    → standing ≢ Over → IsFirstLine bytes line rest → AreHeard gate standing (Whole line) items
    → Advances gate standing bytes items (standing_after gate standing (Whole line)) rest
by_heard gate Nobody bytes line rest items going is given =
    nobody_hears gate bytes line rest items (ends_talk gate None (Whole line)) is given refl
by_heard gate (Somebody wid) bytes line rest items going is given =
    somebody_hears gate wid bytes line rest items (ends_talk gate (Some wid) (Whole line)) is given refl
by_heard gate Over bytes line rest items going is given = absurd (going refl)

-- a line that is too long is heard, and ends the talk
pub by_heard_long : (gate : Gate) (standing : Standing) (bytes left rest : List ℕ) → standing ≢ Over
    → HasLongLine bytes left → Advances gate standing bytes (too_long ∷ []) Over rest
by_heard_long gate Nobody bytes left rest going long = by_long_line gate None bytes left rest long
by_heard_long gate (Somebody wid) bytes left rest going long =
    by_long_line gate (Some wid) bytes left rest long
by_heard_long gate Over bytes left rest going long = absurd (going refl)
