-- What a move keeps: names go on in names, arrays have none, and a value stands behind its name.
use Rattle.std.proofs.Common.{◌≡◌, ◌==◌, ℕ, Bool, true, false, Option, None, Some, if◌then◌else◌, refl}
use Rattle.std.proofs.lemmas.Bool.{eqb-true}
use Rattle.fk_json.specs.Json.{is_space}
use Rattle.fk_json.specs.Tokens.{string_ends, string_step, token_ends, token_first, token_step}
use Rattle.fk_json.specs.Moves.{behind_item, begun, closing, core_move, item_at, move_of, name_led, value_at, value_led}
use Rattle.fk_json.specs.Left.{Fits}
use Rattle.fk_json.specs.declared.mode.Bracket.{Bracket}
use Rattle.fk_json.specs.declared.mode.Bracket.TheVariants.{Array, Object}
use Rattle.fk_json.specs.declared.mode.Mode.{Mode}
use Rattle.fk_json.specs.declared.mode.Mode.TheVariants.{First, Next, Naming, Colon, Value, Within, After}
use Rattle.fk_json.specs.Moves.{Move}
use Rattle.fk_json.specs.Moves.{To, Names, Begins, Opens, Closes, Named, Ended, Stops}
use Rattle.fk_json.specs.declared.string_mode.StringMode.{StringMode}
use Rattle.fk_json.specs.declared.token.Token.{Token}
use Rattle.fk_json.specs.Reached.{IsPast}

abbrev pub PastBy : Bracket → Mode → Type 0
PastBy Array mode = Unit {0}
PastBy Object mode = IsPast mode

-- a byte leads on in a name
abbrev pub LedName : Mode → ℕ → Option StringMode → Type 0
LedName (Naming mode) b led = string_step mode b ≡ led
LedName mode b led = ⊥

-- a name that has ended
abbrev pub EndsName : Mode → Type 0
EndsName (Naming mode) = string_ends mode ≡ true
EndsName mode = ⊥

abbrev pub IsWithin : Mode → Type 0
IsWithin (Within token) = Unit {0}
IsWithin mode = ⊥

abbrev pub IsAnObject : Bracket → Type 0
IsAnObject Array = ⊥
IsAnObject Object = Unit {0}

-- what a move between brackets keeps
abbrev pub IsTame : Bracket → Mode → ℕ → Move → Type 0
IsTame bracket mode b (To (Naming next)) = LedName mode b (Some next) × IsAnObject bracket
IsTame bracket mode b (To to) = Fits bracket to × (IsPast to → IsPast mode)
IsTame bracket mode b Names = IsAnObject bracket × (b ≡ 34)
IsTame bracket mode b (Begins token) = PastBy bracket mode
IsTame bracket mode b (Opens inner) = PastBy bracket mode
IsTame bracket mode b Closes = Unit {0}
IsTame bracket mode b Named = LedName mode b None × EndsName mode × IsAnObject bracket
IsTame bracket mode b Ended = IsWithin mode
IsTame bracket mode b Stops = Unit {0}

-- by a test
pub tame_by : (P : Move → Type 0) (one other : Move) (test : Bool) → (test ≡ true → P one)
    → (test ≡ false → P other) → P (if test then one else other)
tame_by P one other true y n = y refl
tame_by P one other false y n = n refl

begun_tame : (bracket : Bracket) (mode : Mode) (b : ℕ) (led : Option Token) → PastBy bracket mode
    → IsTame bracket mode b (begun led)
begun_tame bracket mode b None past = tt
begun_tame bracket mode b (Some token) past = past

value_tame : (bracket : Bracket) (mode : Mode) (b : ℕ) → PastBy bracket mode
    → IsTame bracket mode b (value_at b)
value_tame bracket mode b past =
    tame_by (IsTame bracket mode b) (Opens Array) (if b == 123 then Opens Object else begun (token_first b))
    (b == 91) (λ _. past)
    (λ _. tame_by (IsTame bracket mode b) (Opens Object) (begun (token_first b)) (b == 123) (λ _. past)
    (λ _. begun_tame bracket mode b (token_first b) past))

item_tame : (bracket : Bracket) (mode : Mode) (b : ℕ) → IsTame bracket mode b (item_at bracket b)
item_tame Array mode b = value_tame Array mode b tt
item_tame Object mode b =
    tame_by (IsTame Object mode b) Names Stops (b == 34) (λ quote. (tt, eqb-true b 34 quote)) (λ _. tt)

name_tame : (mode : StringMode) (b : ℕ) (led : Option StringMode) (ends : Bool)
    → string_step mode b ≡ led → string_ends mode ≡ ends
    → IsTame Object (Naming mode) b (name_led ends led)
name_tame mode b (Some next) ends is may = (is, tt)
name_tame mode b None true is may = (is, may, tt)
name_tame mode b None false is may = tt

within_tame : (bracket : Bracket) (token : Token) (b : ℕ) (led : Option Token) (ends : Bool)
    → IsTame bracket (Within token) b (value_led ends led)
within_tame Array token b (Some next) ends = (tt, λ past. past)
within_tame Object token b (Some next) ends = (tt, λ past. past)
within_tame bracket token b None true = tt
within_tame bracket token b None false = tt

behind_tame : (bracket : Bracket) (b : ℕ) → IsTame bracket After b (behind_item bracket b)
behind_tame Array b =
    tame_by (IsTame Array After b) (To Next) (if b == 93 then Closes else Stops) (b == 44)
    (λ _. (tt, λ past. past))
    (λ _. tame_by (IsTame Array After b) Closes Stops (b == 93) (λ _. tt) (λ _. tt))
behind_tame Object b =
    tame_by (IsTame Object After b) (To Next) (if b == 125 then Closes else Stops) (b == 44)
    (λ _. (tt, λ past. past))
    (λ _. tame_by (IsTame Object After b) Closes Stops (b == 125) (λ _. tt) (λ _. tt))

first_tame : (bracket : Bracket) (b : ℕ) → IsTame bracket First b (core_move bracket First b)
first_tame bracket b =
    tame_by (IsTame bracket First b) Closes (item_at bracket b) (b == closing bracket) (λ _. tt)
    (λ _. item_tame bracket First b)

pub tame : (bracket : Bracket) (mode : Mode) (b : ℕ) → Fits bracket mode
    → IsTame bracket mode b (move_of bracket mode b)
tame Array First b fits =
    tame_by (IsTame Array First b) (To First) (core_move Array First b) (is_space b)
    (λ _. (tt, λ past. past)) (λ _. first_tame Array b)
tame Object First b fits =
    tame_by (IsTame Object First b) (To First) (core_move Object First b) (is_space b)
    (λ _. (tt, λ past. past)) (λ _. first_tame Object b)
tame Array Next b fits =
    tame_by (IsTame Array Next b) (To Next) (item_at Array b) (is_space b)
    (λ _. (tt, λ past. past)) (λ _. item_tame Array Next b)
tame Object Next b fits =
    tame_by (IsTame Object Next b) (To Next) (item_at Object b) (is_space b)
    (λ _. (tt, λ past. past)) (λ _. item_tame Object Next b)
tame Array (Naming mode) b fits = absurd fits
tame Object (Naming mode) b fits = name_tame mode b (string_step mode b) (string_ends mode) refl refl
tame Array Colon b fits = absurd fits
tame Object Colon b fits =
    tame_by (IsTame Object Colon b) (To Colon) (core_move Object Colon b) (is_space b)
    (λ _. (tt, λ past. past))
    (λ _. tame_by (IsTame Object Colon b) (To Value) Stops (b == 58) (λ _. (tt, λ past. tt)) (λ _. tt))
tame Array Value b fits = absurd fits
tame Object Value b fits =
    tame_by (IsTame Object Value b) (To Value) (value_at b) (is_space b)
    (λ _. (tt, λ past. past)) (λ _. value_tame Object Value b tt)
tame bracket (Within token) b fits = within_tame bracket token b (token_step token b) (token_ends token)
tame Array After b fits =
    tame_by (IsTame Array After b) (To After) (behind_item Array b) (is_space b)
    (λ _. (tt, λ past. past)) (λ _. behind_tame Array b)
tame Object After b fits =
    tame_by (IsTame Object After b) (To After) (behind_item Object b) (is_space b)
    (λ _. (tt, λ past. past)) (λ _. behind_tame Object b)
