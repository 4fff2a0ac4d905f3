-- What a byte does between brackets is right: what is left before it is what is left behind it.
use Rattle.std.proofs.Common.{◌≡◌, ◌↔◌, ◌==◌, ℕ, ◌+◌, true, false, List, [], ◌∷◌, refl}
use Rattle.std.proofs.lemmas.Bool.{eqb-false, eqb-true}
use Rattle.fk_json.specs.Json.{IsValue, is_space}
use Rattle.fk_json.specs.Tokens.{string_ends, string_step, token_ends, token_step}
use Rattle.fk_json.specs.TokenRests.{TokenLeft}
use Rattle.fk_json.specs.Moves.{behind_item, core_move, item_at, move_of, value_at}
use Rattle.fk_json.specs.Left.{ByteThen, ColonLeft, Fits, Frame, Item, ModeLeft, Pending, ValueLeft, WithinLeft, ended}
use Rattle.fk_json.specs.declared.member.Member.{Member}
use Rattle.fk_json.specs.declared.mode.Bracket.{Bracket}
use Rattle.fk_json.specs.declared.mode.Bracket.TheVariants.{Array, Object}
use Rattle.fk_json.specs.declared.mode.Mode.{Mode}
use Rattle.fk_json.specs.declared.mode.Mode.TheVariants.{First, Next, Naming, Colon, Value, Within, After}
use Rattle.fk_json.specs.Moves.{To, Stops}
use Rattle.fk_json.specs.Reached.{IsNamed}
use Rattle.fk_json.proofs.Fronts.{after_empty, colon_empty, name_empty, within_empty}
use Rattle.fk_json.proofs.Spaces.{byte_else, byte_on, spaced_nil, spaced_none, spaced_on}
use Rattle.fk_json.proofs.Values.{value_space}
use Rattle.fk_json.proofs.Equivalences.{by_test, neither, through}
use Rattle.fk_json.proofs.ValueSteps.{MoveLeft, closing_closes, frame, name_moves, no_value, value_moves, value_on}
use Rattle.fk_json.proofs.ItemSteps.{after_moves, after_space, first_empty, first_moves, first_space, items_empty, items_move, items_space, space_no_colon}

-- ---- behind a name, and behind its colon

-- the member of the pending name, by its value's place
abbrev member_of : Pending → ℕ → ℕ → Item Object
member_of pending from to = record {
  name = pending.name;
  name_from = pending.name_from;
  name_to = pending.name_to;
  from = from;
  to = to;
}

colon_space : {O : Type 0} (F : Frame Member O) (levels : ℕ) (pending : Pending) (at b : ℕ)
    (text : List ℕ) (found : List O) → is_space b ≡ true
    → (ColonLeft F (IsValue levels) pending.name pending.name_from pending.name_to at (b ∷ text) found)
    ↔ (ColonLeft F (IsValue levels) pending.name pending.name_from pending.name_to (at + 1) text found)
colon_space F levels pending at b text found space =
    let valued = λ (place : ℕ) (rest : List ℕ). ValueLeft F (IsValue levels) (member_of pending) place rest found in
    spaced_on (ByteThen 58 valued) at b text space
    (λ place. byte_else valued 58 place b text (space_no_colon b space))

colon_moves : {O : Type 0} (F : Frame Member O) (levels : ℕ) (IsName : List ℕ → List ℕ → Type 0)
    (pending : Pending) (at b : ℕ) (text : List ℕ) (found : List O) → is_space b ≡ false
    → (ColonLeft F (IsValue levels) pending.name pending.name_from pending.name_to at (b ∷ text) found)
    ↔ (MoveLeft Object F levels IsName pending b at text found (core_move Object Colon b))
colon_moves F levels IsName pending at b text found tight =
    let valued = λ (place : ℕ) (rest : List ℕ). ValueLeft F (IsValue levels) (member_of pending) place rest found in
    through (spaced_none (ByteThen 58 valued) at b text tight)
    (by_test (MoveLeft Object F levels IsName pending b at text found) (To Value) Stops (b == 58)
    (λ colon. byte_on valued 58 at b text (eqb-true b 58 colon))
    (λ other. neither (byte_else valued 58 at b text (eqb-false b 58 other))))

value_space_on : {O : Type 0} (F : Frame Member O) (levels : ℕ) (pending : Pending) (at b : ℕ)
    (text : List ℕ) (found : List O) → is_space b ≡ true
    → (ValueLeft F (IsValue levels) (member_of pending) at (b ∷ text) found)
    ↔ (ValueLeft F (IsValue levels) (member_of pending) (at + 1) text found)
value_space_on F levels pending at b text found space =
    spaced_on (λ place rest. WithinLeft F (IsValue levels) (member_of pending place) place rest found) at b text space
    (λ place. no_value F levels (member_of pending place) place b text found
    (λ rest. value_space levels b rest space))

value_moves_on : {O : Type 0} (F : Frame Member O) (levels : ℕ) (IsName : List ℕ → List ℕ → Type 0)
    (pending : Pending) (at b : ℕ) (text : List ℕ) (found : List O) → is_space b ≡ false
    → (ValueLeft F (IsValue levels) (member_of pending) at (b ∷ text) found)
    ↔ (MoveLeft Object F levels IsName pending b at text found (value_at b))
value_moves_on F levels IsName pending at b text found tight =
    through (spaced_none (λ place rest. WithinLeft F (IsValue levels) (member_of pending place) place rest found)
    at b text tight)
    (value_moves Object F levels IsName pending at b text found)

value_none_left : {O : Type 0} (F : Frame Member O) (levels : ℕ) (pending : Pending) (at : ℕ)
    (found : List O) → ¬ ValueLeft F (IsValue levels) (member_of pending) at [] found
value_none_left F levels pending at found h =
    within_empty F (IsValue levels) (member_of pending at) at found
    ((spaced_nil (λ place rest. WithinLeft F (IsValue levels) (member_of pending place) place rest found) at).0 h)

-- ---- all modes

-- What a byte does is right: what is left with it is what is left behind it.
pub moves_right : {O : Type 0} (bracket : Bracket) (levels : ℕ) (note : Item bracket → List O → List O)
    (Behind : ℕ → List ℕ → List O → Type 0) (IsName : List ℕ → List ℕ → Type 0) (pending : Pending)
    (mode : Mode) (at b : ℕ) (text : List ℕ) (found : List O) → Fits bracket mode → IsNamed mode IsName
    → (ModeLeft bracket (frame bracket levels note Behind) (IsValue levels) IsName pending mode at (b ∷ text) found)
    ↔ (MoveLeft bracket (frame bracket levels note Behind) levels IsName pending b at text found
    (move_of bracket mode b))
moves_right bracket levels note Behind IsName pending First at b text found fits named =
    by_test (MoveLeft bracket (frame bracket levels note Behind) levels IsName pending b at text found)
    (To First) (core_move bracket First b) (is_space b)
    (first_space bracket levels note Behind at b text found)
    (first_moves bracket levels note Behind IsName pending at b text found)
moves_right bracket levels note Behind IsName pending Next at b text found fits named =
    by_test (MoveLeft bracket (frame bracket levels note Behind) levels IsName pending b at text found)
    (To Next) (item_at bracket b) (is_space b)
    (items_space bracket levels note Behind at b text found)
    (items_move bracket levels note Behind IsName pending at b text found)
moves_right bracket levels note Behind IsName pending (Within token) at b text found fits named =
    value_on bracket (frame bracket levels note Behind) levels IsName pending token at b text found
    (token_step token b) (token_ends token) (closing_closes bracket) refl refl
moves_right bracket levels note Behind IsName pending After at b text found fits named =
    by_test (MoveLeft bracket (frame bracket levels note Behind) levels IsName pending b at text found)
    (To After) (behind_item bracket b) (is_space b)
    (after_space (frame bracket levels note Behind) at b text found (closing_closes bracket))
    (after_moves bracket levels note Behind IsName pending at b text found)
moves_right Array levels note Behind IsName pending (Naming mode) at b text found fits named = absurd fits
moves_right Array levels note Behind IsName pending Colon at b text found fits named = absurd fits
moves_right Array levels note Behind IsName pending Value at b text found fits named = absurd fits
moves_right Object levels note Behind IsName pending (Naming mode) at b text found fits named =
    name_moves (frame Object levels note Behind) levels IsName pending mode at b text found
    (string_step mode b) (string_ends mode) refl refl named
moves_right Object levels note Behind IsName pending Colon at b text found fits named =
    by_test (MoveLeft Object (frame Object levels note Behind) levels IsName pending b at text found)
    (To Colon) (core_move Object Colon b) (is_space b)
    (colon_space (frame Object levels note Behind) levels pending at b text found)
    (colon_moves (frame Object levels note Behind) levels IsName pending at b text found)
moves_right Object levels note Behind IsName pending Value at b text found fits named =
    by_test (MoveLeft Object (frame Object levels note Behind) levels IsName pending b at text found)
    (To Value) (value_at b) (is_space b)
    (value_space_on (frame Object levels note Behind) levels pending at b text found)
    (value_moves_on (frame Object levels note Behind) levels IsName pending at b text found)

-- No text ends between brackets.
pub none_ends : {O : Type 0} (bracket : Bracket) (levels : ℕ) (note : Item bracket → List O → List O)
    (Behind : ℕ → List ℕ → List O → Type 0) (IsName : List ℕ → List ℕ → Type 0) (pending : Pending)
    (mode : Mode) (at : ℕ) (found : List O)
    → ¬ ModeLeft bracket (frame bracket levels note Behind) (IsValue levels) IsName pending mode at [] found
none_ends bracket levels note Behind IsName pending First at found h =
    first_empty bracket levels note Behind at found h
none_ends bracket levels note Behind IsName pending Next at found h =
    items_empty bracket levels note Behind at found h
none_ends bracket levels note Behind IsName pending (Within token) at found h =
    within_empty (frame bracket levels note Behind) (TokenLeft token) (ended bracket pending) at found h
none_ends bracket levels note Behind IsName pending After at found h =
    after_empty (frame bracket levels note Behind) at found h
none_ends Array levels note Behind IsName pending (Naming mode) at found h = h
none_ends Array levels note Behind IsName pending Colon at found h = h
none_ends Array levels note Behind IsName pending Value at found h = h
none_ends Object levels note Behind IsName pending (Naming mode) at found h =
    name_empty (frame Object levels note Behind) (IsValue levels) IsName pending.name_from at found h
none_ends Object levels note Behind IsName pending Colon at found h =
    colon_empty (frame Object levels note Behind) (IsValue levels) pending.name pending.name_from pending.name_to at found h
none_ends Object levels note Behind IsName pending Value at found h =
    value_none_left (frame Object levels note Behind) levels pending at found h
