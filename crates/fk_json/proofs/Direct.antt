-- What a byte does that doesn't lead on inside of a token or of white space.
use Rattle.std.proofs.Common.{◌≡◌, ℕ, Bool, true, false, ◌==◌, if◌then◌else◌, None, refl, sym, ap, subst, ◌∙◌}
use Rattle.std.proofs.lemmas.Option.{none-some}
use Rattle.fk_json.specs.Json.{is_space}
use Rattle.fk_json.specs.Moves.{To, Closes, Stops, behind_item, closing, colon_at, core_move, move_of}
use Rattle.fk_json.specs.Runs.{stays_between}
use Rattle.fk_json.specs.Standing.{between_by, moved}
use Rattle.fk_json.specs.Step.{Step}
use Rattle.fk_json.specs.Tokens.{when}
use Rattle.fk_json.specs.declared.mode.Bracket.{Bracket}
use Rattle.fk_json.specs.declared.mode.Mode.{Mode}
use Rattle.fk_json.specs.declared.mode.Mode.TheVariants.{Next, Colon, Value, After}
use Rattle.fk_json.specs.declared.standing.Standing.{Standing}

no_when : {A : Type 0} (test : Bool) (next : A) → when test next ≡ None → test ≡ false
no_when true next e = absurd (none-some next (sym e))
no_when false next e = refl

-- ---- what moves they make: none of them ends a name or a value

colon_direct : (bracket : Bracket) (s : Standing) (at b : ℕ) (leads : Bool)
    → between_by bracket s at b (if leads then To Value else Stops)
    ≡ moved s None at (if leads then To Value else Stops)
colon_direct bracket s at b true = refl
colon_direct bracket s at b false = refl

behind_direct : (bracket : Bracket) (s : Standing) (at b : ℕ) (next closes : Bool)
    → between_by bracket s at b (if next then To Next else if closes then Closes else Stops)
    ≡ moved s None at (if next then To Next else if closes then Closes else Stops)
behind_direct bracket s at b true closes = refl
behind_direct bracket s at b false true = refl
behind_direct bracket s at b false false = refl

-- ---- a byte that ends white space, or stands where none is

tight : (bracket : Bracket) (mode : Mode) (s : Standing) (at b : ℕ) → when (is_space b) mode ≡ None
    → between_by bracket s at b (core_move bracket mode b)
    ≡ between_by bracket s at b (if is_space b then To mode else core_move bracket mode b)
tight bracket mode s at b none =
    ap (λ t. between_by bracket s at b (if t then To mode else core_move bracket mode b))
    (sym (no_when (is_space b) mode none))

pub in_colon : (bracket : Bracket) (mode : Mode) (s : Standing) (at b : ℕ) (led : Step) → mode ≡ Colon
    → stays_between mode b ≡ None → led ≡ moved s None at (colon_at b)
    → led ≡ between_by bracket s at b (move_of bracket mode b)
in_colon bracket mode s at b led is none does =
    subst (λ m. led ≡ between_by bracket s at b (move_of bracket m b)) (sym is)
    (does ∙ sym (colon_direct bracket s at b (b == 58))
    ∙ tight bracket Colon s at b (subst (λ m. stays_between m b ≡ None) is none))

pub in_after : (bracket : Bracket) (mode : Mode) (s : Standing) (at b : ℕ) (led : Step) → mode ≡ After
    → stays_between mode b ≡ None → led ≡ moved s None at (behind_item bracket b)
    → led ≡ between_by bracket s at b (move_of bracket mode b)
in_after bracket mode s at b led is none does =
    subst (λ m. led ≡ between_by bracket s at b (move_of bracket m b)) (sym is)
    (does ∙ sym (behind_direct bracket s at b (b == 44) (b == closing bracket))
    ∙ tight bracket After s at b (subst (λ m. stays_between m b ≡ None) is none))
