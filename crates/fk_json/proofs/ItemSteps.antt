-- What a byte does around an item: what is left before it is what is left behind it.
use Rattle.std.proofs.Common.{◌≡◌, ◌≢◌, inl, inr, ◌↔◌, ◌==◌, ℕ, ◌+◌, true, false, List, [], ◌∷◌, if◌then◌else◌, sym, ap, subst, ◌∙◌}
use Rattle.std.proofs.lemmas.Bool.{eqb-false, eqb-true, false≢true}
use Rattle.fk_json.specs.Json.{IsValue, is_space}
use Rattle.fk_json.specs.String.{IsString}
use Rattle.fk_json.specs.Moves.{behind_item, closing, core_move, item_at, value_at}
use Rattle.fk_json.specs.Left.{AfterLeft, ByteThen, FirstLeft, Frame, Item, ItemsLeft, NameLeft, Pending, TailLeft, WithinLeft}
use Rattle.fk_json.specs.declared.member.Member.{Member}
use Rattle.fk_json.specs.declared.mode.Bracket.{Bracket}
use Rattle.fk_json.specs.declared.mode.Bracket.TheVariants.{Array, Object}
use Rattle.fk_json.specs.declared.mode.Mode.TheVariants.{First, Next}
use Rattle.fk_json.specs.Moves.{To, Names, Closes, Stops}
use Rattle.fk_json.proofs.Fronts.{Closing, name_empty, within_empty, name_ended, name_on, tail_close, tail_comma, tail_else, tail_space}
use Rattle.fk_json.proofs.ElementsApart.{elements_apart}
use Rattle.fk_json.proofs.MembersApart.{members_apart}
use Rattle.fk_json.proofs.Spaces.{byte_else, byte_nil, byte_on, spaced_nil, spaced_none, spaced_on}
use Rattle.fk_json.proofs.StringLeft.{string_empty, string_none}
use Rattle.fk_json.proofs.Values.{value_space}
use Rattle.fk_json.proofs.Equivalences.{back, by_test, either, left_alone, neither, right_alone, same, through}
use Rattle.fk_json.proofs.ValueSteps.{MoveLeft, closing_closes, frame, no_value, value_moves}

-- ---- where an item begins

-- a span from here on
abbrev spanning : ℕ → ℕ → Item Array
spanning from to = record { from = from; to = to }

array_space : {O : Type 0} (levels : ℕ) (note : Item Array → List O → List O)
    (Behind : ℕ → List ℕ → List O → Type 0) (at b : ℕ) (text : List ℕ) (found : List O)
    → is_space b ≡ true
    → (ItemsLeft (frame Array levels note Behind) at (b ∷ text) found)
    ↔ (ItemsLeft (frame Array levels note Behind) (at + 1) text found)
array_space levels note Behind at b text found space =
    let F = frame Array levels note Behind in
    let valued = λ (place : ℕ) (rest : List ℕ). WithinLeft F (IsValue levels) (spanning place) place rest found in
    through (elements_apart (IsValue levels) 93 note Behind at (b ∷ text) found)
    (through (spaced_on valued at b text space
    (λ place. no_value F levels (spanning place) place b text found (λ rest. value_space levels b rest space)))
    (back (elements_apart (IsValue levels) 93 note Behind (at + 1) text found)))

array_moves : {O : Type 0} (levels : ℕ) (note : Item Array → List O → List O)
    (Behind : ℕ → List ℕ → List O → Type 0) (IsName : List ℕ → List ℕ → Type 0) (pending : Pending)
    (at b : ℕ) (text : List ℕ) (found : List O) → is_space b ≡ false
    → (ItemsLeft (frame Array levels note Behind) at (b ∷ text) found)
    ↔ (MoveLeft Array (frame Array levels note Behind) levels IsName pending b at text found (value_at b))
array_moves levels note Behind IsName pending at b text found tight =
    let F = frame Array levels note Behind in
    let valued = λ (place : ℕ) (rest : List ℕ). WithinLeft F (IsValue levels) (spanning place) place rest found in
    through (elements_apart (IsValue levels) 93 note Behind at (b ∷ text) found)
    (through (spaced_none valued at b text tight)
    (value_moves Array F levels IsName pending at b text found))

no_name : {O : Type 0} (F : Frame Member O) (IsInner : List ℕ → Type 0) (from at b : ℕ)
    (text : List ℕ) (found : List O) → b ≢ 34
    → ¬ NameLeft F IsInner IsString from at (b ∷ text) found
no_name F IsInner from at b text found differs h =
    let over = (name_ended F IsInner IsString from at b text found
    (λ rest name. string_none b rest name differs)).0 h in
    string_empty over.0 over.1

space_no_quote : (b : ℕ) → is_space b ≡ true → b ≢ 34
space_no_quote b space e = false≢true (subst (λ x. is_space x ≡ true) e space)

pub space_no_colon : (b : ℕ) → is_space b ≡ true → b ≢ 58
space_no_colon b space e = false≢true (subst (λ x. is_space x ≡ true) e space)

object_space : {O : Type 0} (levels : ℕ) (note : Item Object → List O → List O)
    (Behind : ℕ → List ℕ → List O → Type 0) (at b : ℕ) (text : List ℕ) (found : List O)
    → is_space b ≡ true
    → (ItemsLeft (frame Object levels note Behind) at (b ∷ text) found)
    ↔ (ItemsLeft (frame Object levels note Behind) (at + 1) text found)
object_space levels note Behind at b text found space =
    let F = frame Object levels note Behind in
    let named = λ (place : ℕ) (rest : List ℕ). NameLeft F (IsValue levels) IsString place place rest found in
    through (members_apart (IsValue levels) 125 note Behind at (b ∷ text) found)
    (through (spaced_on named at b text space
    (λ place. no_name F (IsValue levels) place place b text found (space_no_quote b space)))
    (back (members_apart (IsValue levels) 125 note Behind (at + 1) text found)))

object_moves : {O : Type 0} (levels : ℕ) (note : Item Object → List O → List O)
    (Behind : ℕ → List ℕ → List O → Type 0) (IsName : List ℕ → List ℕ → Type 0) (pending : Pending)
    (at b : ℕ) (text : List ℕ) (found : List O) → is_space b ≡ false
    → (ItemsLeft (frame Object levels note Behind) at (b ∷ text) found)
    ↔ (MoveLeft Object (frame Object levels note Behind) levels IsName pending b at text found (item_at Object b))
object_moves levels note Behind IsName pending at b text found tight =
    let F = frame Object levels note Behind in
    let named = λ (place : ℕ) (rest : List ℕ). NameLeft F (IsValue levels) IsString place place rest found in
    through (members_apart (IsValue levels) 125 note Behind at (b ∷ text) found)
    (through (spaced_none named at b text tight)
    (by_test (MoveLeft Object F levels IsName pending b at text found) Names Stops (b == 34)
    (λ quote. name_on F (IsValue levels) IsString (λ rest name. IsString (b ∷ rest) name) at at b text found
    (λ rest name. same) (λ name. string_empty name))
    (λ other. neither (no_name F (IsValue levels) at at b text found (eqb-false b 34 other)))))

pub items_space : {O : Type 0} (bracket : Bracket) (levels : ℕ) (note : Item bracket → List O → List O)
    (Behind : ℕ → List ℕ → List O → Type 0) (at b : ℕ) (text : List ℕ) (found : List O)
    → is_space b ≡ true
    → (ItemsLeft (frame bracket levels note Behind) at (b ∷ text) found)
    ↔ (ItemsLeft (frame bracket levels note Behind) (at + 1) text found)
items_space Array = array_space
items_space Object = object_space

pub items_move : {O : Type 0} (bracket : Bracket) (levels : ℕ) (note : Item bracket → List O → List O)
    (Behind : ℕ → List ℕ → List O → Type 0) (IsName : List ℕ → List ℕ → Type 0) (pending : Pending)
    (at b : ℕ) (text : List ℕ) (found : List O) → is_space b ≡ false
    → (ItemsLeft (frame bracket levels note Behind) at (b ∷ text) found)
    ↔ (MoveLeft bracket (frame bracket levels note Behind) levels IsName pending b at text found (item_at bracket b))
items_move Array = array_moves
items_move Object = object_moves

pub items_empty : {O : Type 0} (bracket : Bracket) (levels : ℕ) (note : Item bracket → List O → List O)
    (Behind : ℕ → List ℕ → List O → Type 0) (at : ℕ) (found : List O)
    → ¬ ItemsLeft (frame bracket levels note Behind) at [] found
items_empty Array levels note Behind at found h =
    let F = frame Array levels note Behind in
    let valued = λ (place : ℕ) (rest : List ℕ). WithinLeft F (IsValue levels) (spanning place) place rest found in
    within_empty F (IsValue levels) (spanning at) at found
    ((spaced_nil valued at).0 ((elements_apart (IsValue levels) 93 note Behind at [] found).0 h))
items_empty Object levels note Behind at found h =
    let F = frame Object levels note Behind in
    let named = λ (place : ℕ) (rest : List ℕ). NameLeft F (IsValue levels) IsString place place rest found in
    name_empty F (IsValue levels) IsString at at found
    ((spaced_nil named at).0 ((members_apart (IsValue levels) 125 note Behind at [] found).0 h))

-- ---- behind the opening bracket

closing_stops : (bracket : Bracket) (b : ℕ) → b ≡ closing bracket → item_at bracket b ≡ Stops
closing_stops Array b e = ap value_at e
closing_stops Object b e = ap (item_at Object) e

pub first_space : {O : Type 0} (bracket : Bracket) (levels : ℕ) (note : Item bracket → List O → List O)
    (Behind : ℕ → List ℕ → List O → Type 0) (at b : ℕ) (text : List ℕ) (found : List O)
    → is_space b ≡ true
    → (FirstLeft (frame bracket levels note Behind) at (b ∷ text) found)
    ↔ (FirstLeft (frame bracket levels note Behind) (at + 1) text found)
first_space bracket levels note Behind at b text found space =
    let closes = λ (place : ℕ) (rest : List ℕ). Behind place rest found in
    either (items_space bracket levels note Behind at b text found space)
    (spaced_on (ByteThen (closing bracket) closes) at b text space
    (λ place. byte_else closes (closing bracket) place b text
    (λ e. false≢true (sym (closing_closes bracket).tight ∙ subst (λ x. is_space x ≡ true) e space))))

pub first_moves : {O : Type 0} (bracket : Bracket) (levels : ℕ) (note : Item bracket → List O → List O)
    (Behind : ℕ → List ℕ → List O → Type 0) (IsName : List ℕ → List ℕ → Type 0) (pending : Pending)
    (at b : ℕ) (text : List ℕ) (found : List O) → is_space b ≡ false
    → (FirstLeft (frame bracket levels note Behind) at (b ∷ text) found)
    ↔ (MoveLeft bracket (frame bracket levels note Behind) levels IsName pending b at text found
    (core_move bracket First b))
first_moves bracket levels note Behind IsName pending at b text found tight =
    let F = frame bracket levels note Behind in
    let closes = λ (place : ℕ) (rest : List ℕ). Behind place rest found in
    by_test (MoveLeft bracket F levels IsName pending b at text found) Closes (item_at bracket b)
    (b == closing bracket)
    (λ close. right_alone
    (λ h. subst (MoveLeft bracket F levels IsName pending b at text found)
    (closing_stops bracket b (eqb-true b (closing bracket) close))
    ((items_move bracket levels note Behind IsName pending at b text found tight).0 h))
    (through (spaced_none (ByteThen (closing bracket) closes) at b text tight)
    (byte_on closes (closing bracket) at b text (eqb-true b (closing bracket) close))))
    (λ other. left_alone (items_move bracket levels note Behind IsName pending at b text found tight)
    (λ h. byte_else closes (closing bracket) at b text (eqb-false b (closing bracket) other)
    ((spaced_none (ByteThen (closing bracket) closes) at b text tight).0 h)))

pub first_empty : {O : Type 0} (bracket : Bracket) (levels : ℕ) (note : Item bracket → List O → List O)
    (Behind : ℕ → List ℕ → List O → Type 0) (at : ℕ) (found : List O)
    → ¬ FirstLeft (frame bracket levels note Behind) at [] found
first_empty bracket levels note Behind at found h =
    let closes = λ (place : ℕ) (rest : List ℕ). Behind place rest found in
    elim h as (λ _. ⊥) [
      | inl p ↦ items_empty bracket levels note Behind at found p
      | inr p ↦ byte_nil closes (closing bracket) at ((spaced_nil (ByteThen (closing bracket) closes) at).0 p)
    ]

-- ---- behind an item

pub after_space : {I O : Type 0} (F : Frame I O) (at b : ℕ) (text : List ℕ) (found : List O)
    → Closing F.close → is_space b ≡ true
    → (AfterLeft F at (b ∷ text) found) ↔ (AfterLeft F (at + 1) text found)
after_space F at b text found closing space =
    spaced_on (λ place rest. TailLeft F place rest found) at b text space
    (λ place. tail_space F place b text found closing space)

pub after_moves : {O : Type 0} (bracket : Bracket) (levels : ℕ) (note : Item bracket → List O → List O)
    (Behind : ℕ → List ℕ → List O → Type 0) (IsName : List ℕ → List ℕ → Type 0) (pending : Pending)
    (at b : ℕ) (text : List ℕ) (found : List O) → is_space b ≡ false
    → (AfterLeft (frame bracket levels note Behind) at (b ∷ text) found)
    ↔ (MoveLeft bracket (frame bracket levels note Behind) levels IsName pending b at text found
    (behind_item bracket b))
after_moves bracket levels note Behind IsName pending at b text found tight =
    let F = frame bracket levels note Behind in
    let closes = closing_closes bracket in
    through (spaced_none (λ place rest. TailLeft F place rest found) at b text tight)
    (by_test (MoveLeft bracket F levels IsName pending b at text found) (To Next)
    (if b == closing bracket then Closes else Stops) (b == 44)
    (λ comma. tail_comma F at b text found closes (eqb-true b 44 comma))
    (λ no_comma. by_test (MoveLeft bracket F levels IsName pending b at text found) Closes Stops
    (b == closing bracket)
    (λ close. tail_close F at b text found closes (eqb-true b (closing bracket) close))
    (λ other. neither (tail_else F at b text found (eqb-false b 44 no_comma)
    (eqb-false b (closing bracket) other)))))
