-- What a byte does between brackets (RFC 8259, sections 2, 4 and 5).
use Rattle.std.specs.Prelude.{◌==◌, ℕ, Bool, if◌then◌else◌, List, [], ◌∷◌, Option, None, Some}
use Rattle.fk_json.specs.Json.{is_space}
use Rattle.fk_json.specs.Tokens.{string_ends, string_step, token_ends, token_first, token_step}
use Rattle.fk_json.specs.declared.string_mode.StringMode.{StringMode}
use Rattle.fk_json.specs.declared.token.Token.{Token}
use Rattle.fk_json.specs.declared.mode.Bracket.{Bracket}
use Rattle.fk_json.specs.declared.mode.Bracket.TheVariants.{Array, Object}
use Rattle.fk_json.specs.declared.mode.Mode.{Mode}
use Rattle.fk_json.specs.declared.mode.Mode.TheVariants.{First, Next, Naming, Colon, Value, Within, After}

-- It leads to a mode; it is the quote in front of a name, the first byte of a value without brackets
-- or of one in brackets, or the closing bracket; it stands behind the name or the value, which ended
-- before it; it can't stand there.
pub data Move : Type 0 where
  To : Mode → Move
  Names : Move
  Begins : Token → Move
  Opens : Bracket → Move
  Closes : Move
  Named : Move
  Ended : Move
  Stops : Move

abbrev pub closing : Bracket → ℕ
closing Array = 93
closing Object = 125

abbrev pub opening : Bracket → ℕ
opening Array = 91
opening Object = 123

-- a name in which a byte led on, or not
abbrev pub name_led : Bool → Option StringMode → Move
name_led ends (Some next) = To (Naming next)
name_led ends None = if ends then Named else Stops

abbrev pub name_goes : StringMode → ℕ → Move
name_goes name b = name_led (string_ends name) (string_step name b)

-- a value in which a byte led on, or not
abbrev pub value_led : Bool → Option Token → Move
value_led ends (Some next) = To (Within next)
value_led ends None = if ends then Ended else Stops

abbrev pub value_goes : Token → ℕ → Move
value_goes token b = value_led (token_ends token) (token_step token b)

abbrev pub begun : Option Token → Move
begun (Some token) = Begins token
begun None = Stops

-- where a value may begin
abbrev pub value_at : ℕ → Move
value_at b =
    if b == 91 then Opens Array
    else if b == 123 then Opens Object
    else begun (token_first b)

-- where an item may begin
abbrev pub item_at : Bracket → ℕ → Move
item_at Array b = value_at b
item_at Object b = if b == 34 then Names else Stops

-- behind the opening bracket
abbrev pub first_at : Bracket → ℕ → Move
first_at bracket b = if b == closing bracket then Closes else item_at bracket b

abbrev pub colon_at : ℕ → Move
colon_at b = if b == 58 then To Value else Stops

-- behind an item
abbrev pub behind_item : Bracket → ℕ → Move
behind_item bracket b =
    if b == 44 then To Next
    else if b == closing bracket then Closes
    else Stops

-- what a byte does that isn't white space
abbrev pub core_move : Bracket → Mode → ℕ → Move
core_move bracket First b = first_at bracket b
core_move bracket Next b = item_at bracket b
core_move bracket (Naming name) b = name_goes name b
core_move bracket Colon b = colon_at b
core_move bracket Value b = value_at b
core_move bracket (Within token) b = value_goes token b
core_move bracket After b = behind_item bracket b

-- what the next byte does; white space counts in names and in values alone
abbrev pub move_of : Bracket → Mode → ℕ → Move
move_of bracket (Naming name) b = name_goes name b
move_of bracket (Within token) b = value_goes token b
move_of bracket mode b = if is_space b then To mode else core_move bracket mode b

-- behind a name, and behind a value, which may end at any byte
abbrev pub behind_name : ℕ → Move
behind_name b = if is_space b then To Colon else colon_at b

abbrev pub behind_value : Bracket → ℕ → Move
behind_value bracket b = if is_space b then To After else behind_item bracket b

-- ---- brackets in brackets

-- the innermost of the brackets that are open, the outermost and those in it, innermost first
abbrev pub innermost : Bracket → List Bracket → Bracket
innermost outer [] = outer
innermost outer (bracket ∷ inner) = bracket

-- how many brackets may be open inside of the outermost
abbrev pub most_inner : ℕ
most_inner = 126
