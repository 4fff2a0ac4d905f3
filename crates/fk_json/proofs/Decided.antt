-- Each text is an object or an array of at most 127 levels, or fails at a place, or goes too deep
-- at one; and each text is a string, or is none.
use Rattle.std.proofs.Common.{◌≡◌, ◌≢◌, ◌⊎◌, inl, inr, ℕ, Bool, true, false, List, [], ◌∷◌, ◌++◌, length, Option, None, Some, refl, sym, subst, arith}
use Rattle.std.proofs.lemmas.Bool.{cases_eq}
use Rattle.std.proofs.lemmas.List.{append_assoc, append-nil}
use Rattle.fk_json.specs.String.{IsString}
use Rattle.fk_json.specs.Tokens.{string_ends, string_step}
use Rattle.fk_json.specs.TokenRests.{StringLeft}
use Rattle.fk_json.specs.Json.{FailsAt, IsArrayText, IsObjectText, IsTooDeepAt, most_levels}
use Rattle.fk_json.specs.Moves.{most_inner}
use Rattle.fk_json.specs.Left.{Item}
use Rattle.fk_json.specs.Standing.{first_standing, is_whole, read}
use Rattle.fk_json.specs.Remainder.{IsTextOf}
use Rattle.fk_json.specs.declared.member.Member.{Member}
use Rattle.fk_json.specs.declared.span.Span.{Span}
use Rattle.fk_json.specs.declared.mode.Bracket.{Bracket}
use Rattle.fk_json.specs.declared.mode.Bracket.TheVariants.{Array, Object}
use Rattle.fk_json.specs.declared.standing.Standing.{Standing}
use Rattle.fk_json.specs.Step.{Step}
use Rattle.fk_json.specs.Step as step
use Rattle.fk_json.specs.declared.string_mode.StringMode.{StringMode}
use Rattle.fk_json.specs.declared.string_mode.StringMode.TheVariants.{Inside}
use Rattle.fk_json.proofs.Places.{ends_early, fails_at, too_deep_at}
use Rattle.fk_json.proofs.ReadingOn.{Ahead, goes_on, read_right}
use Rattle.fk_json.proofs.Readings.{starts, whole_text}
use Rattle.fk_json.proofs.Outcomes.{Outcome}
use Rattle.fk_json.specs.Reached.{Stands}
use Rattle.fk_json.proofs.StringLeft.{string_begins, string_empty, string_goes, string_may_end, string_none, string_stops, string_unended}

-- ---- objects and arrays

-- it is a text of at most so many levels as are read, or fails, or goes too deep
abbrev pub Decision : Bracket → List ℕ → Type 0
Decision outer text =
    ((items : List (Item outer)) × IsTextOf outer most_levels text items)
    ⊎ (((at : ℕ) × FailsAt (IsTextOf outer) text at) ⊎ ((at : ℕ) × IsTooDeepAt (IsTextOf outer) text at))

-- at the end
decided_end : (outer : Bracket) (done : List ℕ) (found : List (Item outer)) (standing : Standing)
    → Stands outer done found standing → (whole : Bool) → is_whole standing.region ≡ whole → Decision outer done
decided_end outer done found standing s true is =
    inl (found, (whole_text outer done found standing most_inner found (omega (arith)) is s).1 refl)
decided_end outer done found standing s false is =
    inr (inl (length done, ends_early outer done found standing is s))

-- and at each byte
decided_step : (outer : Bracket) (done : List ℕ) (found : List (Item outer)) (standing : Standing) (b : ℕ)
    (rest : List ℕ) → (s : Stands outer done found standing) → (led : Step)
    → Outcome outer (Ahead outer done s.name standing b) done standing.inner b led
    → ((more : List (Item outer)) (next : Standing) → Stands outer (done ++ b ∷ []) more next
    → Decision outer ((done ++ b ∷ []) ++ rest))
    → Decision outer (done ++ b ∷ rest)
decided_step outer done found standing b rest s (step.Goes next item) ((items, adds), leads) onward =
    subst (Decision outer) (append_assoc done (b ∷ []) rest)
    (onward (found ++ items) next (goes_on outer done found standing b items next s (leads items adds)))
decided_step outer done found standing b rest s step.TooDeep outcome onward =
    inr (inr (length done, too_deep_at outer done found standing b rest s outcome))
decided_step outer done found standing b rest s step.Stops outcome onward =
    inr (inl (length done, fails_at outer done found standing b rest s outcome))

decided_from : (outer : Bracket) (done : List ℕ) (found : List (Item outer)) (standing : Standing) (rest : List ℕ)
    → Stands outer done found standing → Decision outer (done ++ rest)
decided_from outer done found standing [] s =
    subst (Decision outer) (sym (append-nil done)) (decided_end outer done found standing s (is_whole standing.region) refl)
decided_from outer done found standing (b ∷ rest) s =
    decided_step outer done found standing b rest s (read outer standing (length done) b)
    (read_right outer done found standing b s)
    (λ more next stands. decided_from outer (done ++ b ∷ []) more next rest stands)

pub decided : (outer : Bracket) (text : List ℕ) → Decision outer text
decided outer text = decided_from outer [] [] first_standing text (starts outer)

pub object_decided : (text : List ℕ)
    → ((members : List Member) × IsObjectText most_levels text members)
    ⊎ (((at : ℕ) × FailsAt IsObjectText text at) ⊎ ((at : ℕ) × IsTooDeepAt IsObjectText text at))
object_decided text = decided Object text

pub array_decided : (text : List ℕ)
    → ((elements : List Span) × IsArrayText most_levels text elements)
    ⊎ (((at : ℕ) × FailsAt IsArrayText text at) ⊎ ((at : ℕ) × IsTooDeepAt IsArrayText text at))
array_decided text = decided Array text

-- ---- strings

abbrev LeftDecided : StringMode → List ℕ → Type 0
LeftDecided mode text = StringLeft mode text ⊎ ¬ StringLeft mode text

left_end : (mode : StringMode) (ends : Bool) → string_ends mode ≡ ends → LeftDecided mode []
left_end mode true e = inl (string_may_end mode e)
left_end mode false e = inr (string_unended mode e)

left_behind : (mode next : StringMode) (b : ℕ) (text : List ℕ) → string_step mode b ≡ Some next
    → LeftDecided next text → LeftDecided mode (b ∷ text)
left_behind mode next b text e (inl left) = inl ((string_goes mode next b text e).1 left)
left_behind mode next b text e (inr none) = inr (λ left. none ((string_goes mode next b text e).0 left))

left_step : (mode : StringMode) (b : ℕ) (text : List ℕ) (next : Option StringMode) → string_step mode b ≡ next
    → ((led : StringMode) → LeftDecided led text) → LeftDecided mode (b ∷ text)
left_step mode b text None e onward = inr (string_stops mode b text e)
left_step mode b text (Some next) e onward = left_behind mode next b text e (onward next)

left_decided : (mode : StringMode) (text : List ℕ) → LeftDecided mode text
left_decided mode [] = left_end mode (string_ends mode) refl
left_decided mode (b ∷ text) = left_step mode b text (string_step mode b) refl (λ led. left_decided led text)

abbrev StringDecision : List ℕ → Type 0
StringDecision text = ((value : List ℕ) × IsString text value) ⊎ ((value : List ℕ) → ¬ IsString text value)

behind_quote : (text : List ℕ) → LeftDecided Inside text → StringDecision (34 ∷ text)
behind_quote text (inl left) = inl ((string_begins text).1 left)
behind_quote text (inr none) = inr (λ value is. none ((string_begins text).0 (value, is)))

by_first : (b : ℕ) (text : List ℕ) → (b ≡ 34) ⊎ (b ≢ 34) → StringDecision (b ∷ text)
by_first b text (inl e) =
    subst (λ x. StringDecision (x ∷ text)) (sym e) (behind_quote text (left_decided Inside text))
by_first b text (inr other) = inr (λ value. string_none b text value other)

pub string_decided : (text : List ℕ)
    → ((value : List ℕ) × IsString text value) ⊎ ((value : List ℕ) → ¬ IsString text value)
string_decided [] = inr string_empty
string_decided (b ∷ text) = by_first b text (cases_eq b 34)
