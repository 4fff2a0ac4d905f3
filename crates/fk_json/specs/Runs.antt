-- Bytes that are read at once: how they lead on inside of one token, or in the white space between
-- two.
use Rattle.std.specs.Prelude.{◌≡◌, ◌+◌, true, ◌&&◌, ℕ, ◌≤◌, ◌<◌, Bool, nat_lt, List, [], ◌∷◌, length, option_map, slice_index, slice_range, Option, None, Some}
use Rattle.std.specs.Option.{option_and_then}
use Rattle.fk_json.specs.Json.{is_space}
use Rattle.fk_json.specs.String.{is_itself}
use Rattle.fk_json.specs.Tokens.{is_hexadecimal, string_step, token_step, when}
use Rattle.fk_json.specs.declared.mode.Mode.{Mode}
use Rattle.fk_json.specs.declared.mode.Mode.TheVariants.{Naming, Within}
use Rattle.fk_json.specs.declared.standing.Region.{Region}
use Rattle.fk_json.specs.declared.standing.Region.TheVariants.{Between}

-- where bytes lead, step by step, where each of them leads on
abbrev pub through : {S : Type 0} → (S → ℕ → Option S) → S → List ℕ → Option S
through step mode [] = Some mode
through step mode (byte ∷ bytes) = option_and_then (λ next. through step next bytes) (step mode byte)

-- the bytes of a text from a place to another lead from one mode to another
pub record Passes {S : Type 0}
    (step : S → ℕ → Option S) (text : List ℕ) (from : ℕ) (mode : S) (to : ℕ) (next : S) : Type 0 where
  pub onward : from ≤ to
  pub within : to ≤ length text
  pub leads : through step mode (slice_range text from to) ≡ Some next

-- and no further
pub record RunsTo {S : Type 0}
    (step : S → ℕ → Option S) (text : List ℕ) (from : ℕ) (mode : S) (to : ℕ) (next : S) : Type 0 where
  pub passes : Passes step text from mode to next
  pub ends : to < length text → step next (slice_index text to) ≡ None

-- a byte that stands for itself in a string, and is a character of its own
abbrev pub is_plain : ℕ → Bool
is_plain byte = is_itself byte && nat_lt byte 0x80

-- four hexadecimal digits stand at a place
pub record AreFourDigits (text : List ℕ) (at : ℕ) : Type 0 where
  pub within : at + 4 ≤ length text
  pub first : is_hexadecimal (slice_index text at) ≡ true
  pub second : is_hexadecimal (slice_index text (at + 1)) ≡ true
  pub third : is_hexadecimal (slice_index text (at + 2)) ≡ true
  pub fourth : is_hexadecimal (slice_index text (at + 3)) ≡ true

-- where a byte leads inside of a name or a value, and white space anywhere else between brackets
abbrev pub stays_between : Mode → ℕ → Option Mode
stays_between (Naming name) b = option_map Naming (string_step name b)
stays_between (Within token) b = option_map Within (token_step token b)
stays_between mode b = when (is_space b) mode

-- the same in a whole text
abbrev pub stays : Region → ℕ → Option Region
stays (Between mode) b = option_map Between (stays_between mode b)
stays region b = when (is_space b) region
