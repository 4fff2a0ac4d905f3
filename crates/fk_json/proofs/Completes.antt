-- From wherever a scan stands, some bytes bring the text to its end.
use Rattle.std.proofs.Common.{◌≡◌, inl, inr, ℕ, suc, ◌+◌, List, [], ◌∷◌, ◌++◌, length, refl, arith}
use Rattle.fk_json.specs.Json.{IsSpace, IsValue}
use Rattle.fk_json.specs.String.{IsString}
use Rattle.fk_json.specs.TokenRests.{TokenLeft}
use Rattle.fk_json.specs.Moves.{innermost, opening}
use Rattle.fk_json.specs.Left.{AfterLeft, ByteThen, ColonLeft, FirstLeft, Fits, Frame, IsNothing, Item, ItemsLeft, ModeLeft, NameLeft, Pending, Spaced, TailLeft, ValueLeft, WithinLeft, ended, outermost}
use Rattle.fk_json.specs.Remainder.{NameRest, frame_in, no_item, pending_in}
use Rattle.fk_json.specs.declared.member.Member.{Member}
use Rattle.fk_json.specs.declared.mode.Bracket.{Bracket}
use Rattle.fk_json.specs.declared.mode.Bracket.TheVariants.{Array, Object}
use Rattle.fk_json.specs.declared.mode.Mode.{Mode}
use Rattle.fk_json.specs.declared.mode.Mode.TheVariants.{First, Next, Naming, Colon, Value, Within, After}
use Rattle.fk_json.specs.declared.number_mode.NumberMode.TheVariants.{Zero}
use Rattle.fk_json.specs.declared.string_mode.StringMode.TheVariants.{Inside}
use Rattle.fk_json.specs.declared.token.Token.TheVariants as token
use Rattle.fk_json.specs.Reached.{IsNamed}
use Rattle.fk_json.proofs.ElementsApart.{elements_apart}
use Rattle.fk_json.proofs.MembersApart.{members_apart, named}
use Rattle.fk_json.proofs.NumberLeft.{number_may_end}
use Rattle.fk_json.proofs.Spaces.{spaced_at}
use Rattle.fk_json.proofs.ValueSteps.{frame}
use Rattle.fk_json.proofs.StringLeft.{string_begins}
use Rattle.fk_json.proofs.StringCompletes.{string_completes}
use Rattle.fk_json.proofs.TokenLeft.{token_completes}
use Rattle.fk_json.proofs.Values.{value_begins}

-- some bytes are such a rest, and some items are found in them
abbrev Completed : {O : Type 0} → (List ℕ → List O → Type 0) → Type 0
Completed {O} Left = (text : List ℕ) × (found : List O) × Left text found

-- the same at each place behind the closing bracket
abbrev Completable : {I O : Type 0} → Frame I O → Type 0
Completable F = (place : ℕ) → Completed (λ text found. F.Behind place text found)

-- ---- behind an item, and behind a value

after_completes : {I O : Type 0} (F : Frame I O) → Completable F → (at : ℕ)
    → Completed (λ text found. AfterLeft F at text found)
after_completes F behind at =
    let (text, found, h) = behind (at + 1) in (
      F.close ∷ text,
      found,
      spaced_at (λ place rest. TailLeft F place rest found) at (F.close ∷ text) (inl (text, h, refl)),
    )

first_completes : {I O : Type 0} (F : Frame I O) → Completable F → (at : ℕ)
    → Completed (λ text found. FirstLeft F at text found)
first_completes F behind at =
    let (text, found, h) = behind (at + 1) in (
      F.close ∷ text,
      found,
      inr (spaced_at (ByteThen F.close (λ place rest. F.Behind place rest found)) at
          (F.close ∷ text) (text, h, refl)),
    )

-- ---- a value

within_completes : {I O : Type 0} (F : Frame I O) → Completable F → (L : List ℕ → Type 0) (rest : List ℕ)
    → L rest → (item : ℕ → I) (at : ℕ) → Completed (λ text found. WithinLeft F L item at text found)
within_completes F behind L rest l item at =
    let (after, others, h) = after_completes F behind (at + length rest) in
    (rest ++ after, F.note (item (at + length rest)) others, (rest, after, others, l, h, refl, refl))

zero_value : (levels : ℕ) → IsValue levels (48 ∷ [])
zero_value levels =
    (value_begins levels 48 (token.Number Zero) [] (omega arith) (omega arith) refl).1 (number_may_end Zero refl)

value_completes : {I O : Type 0} (F : Frame I O) → Completable F → (levels : ℕ) (item : ℕ → ℕ → I) (at : ℕ)
    → Completed (λ text found. ValueLeft F (IsValue levels) item at text found)
value_completes F behind levels item at =
    let (text, found, h) = within_completes F behind (IsValue levels) (48 ∷ []) (zero_value levels) (item at) at in
    (text, found, spaced_at (λ place rest. WithinLeft F (IsValue levels) (item place) place rest found) at text h)

-- ---- a name

colon_completes : {O : Type 0} (F : Frame Member O) → Completable F → (levels : ℕ) (name : List ℕ)
    (name_from name_to at : ℕ)
    → Completed (λ text found. ColonLeft F (IsValue levels) name name_from name_to at text found)
colon_completes F behind levels name name_from name_to at =
    let (text, found, h) = value_completes F behind levels (named name name_from name_to) (at + 1) in (
      58 ∷ text,
      found,
      spaced_at (ByteThen 58 (λ place rest. ValueLeft F (IsValue levels)
          (named name name_from name_to) place rest found)) at (58 ∷ text) (text, h, refl),
    )

name_completes : {O : Type 0} (F : Frame Member O) → Completable F → (levels : ℕ)
    (IsName : List ℕ → List ℕ → Type 0) (rest name : List ℕ) → IsName rest name → (name_from at : ℕ)
    → Completed (λ text found. NameLeft F (IsValue levels) IsName name_from at text found)
name_completes F behind levels IsName rest name is name_from at =
    let place = at + length rest in
    let (after, found, h) = colon_completes F behind levels name name_from place place in
    (rest ++ after, found, (rest, after, name, is, h, refl))

-- ---- items

items_complete : {O : Type 0} (bracket : Bracket) (levels : ℕ) (note : Item bracket → List O → List O)
    (Behind : ℕ → List ℕ → List O → Type 0) → Completable (frame bracket levels note Behind) → (at : ℕ)
    → Completed (λ text found. ItemsLeft (frame bracket levels note Behind) at text found)
items_complete Array levels note Behind behind at =
    let (text, found, h) = value_completes (frame Array levels note Behind) behind levels
    (λ from to. record { from = from; to = to }) at in
    (text, found, (elements_apart (IsValue levels) 93 note Behind at text found).1 h)
items_complete Object levels note Behind behind at =
    let F = frame Object levels note Behind in
    let (rest, left) = string_completes Inside in
    let (name, is) = (string_begins rest).1 left in
    let (text, found, h) = name_completes F behind levels IsString (34 ∷ rest) name is at at in (
      text,
      found,
      (members_apart (IsValue levels) 125 note Behind at text found).1
          (spaced_at (λ place more. NameLeft F (IsValue levels) IsString place place more found) at text h),
    )

-- ---- brackets in brackets

mode_completes : {O : Type 0} (bracket : Bracket) (levels : ℕ) (note : Item bracket → List O → List O)
    (Behind : ℕ → List ℕ → List O → Type 0) → Completable (frame bracket levels note Behind)
    → (IsName : List ℕ → List ℕ → Type 0) (pending : Pending) (mode : Mode) (at : ℕ)
    → Fits bracket mode → IsNamed mode IsName
    → Completed (λ text found.
    ModeLeft bracket (frame bracket levels note Behind) (IsValue levels) IsName pending mode at text found)
mode_completes bracket levels note Behind behind IsName pending First at fits is =
    first_completes (frame bracket levels note Behind) behind at
mode_completes bracket levels note Behind behind IsName pending Next at fits is =
    items_complete bracket levels note Behind behind at
mode_completes bracket levels note Behind behind IsName pending (Within token) at fits is =
    let (rest, left) = token_completes token in
    within_completes (frame bracket levels note Behind) behind (TokenLeft token) rest left (ended bracket pending) at
mode_completes bracket levels note Behind behind IsName pending After at fits is =
    after_completes (frame bracket levels note Behind) behind at
mode_completes Array levels note Behind behind IsName pending (Naming mode) at fits is = absurd fits
mode_completes Array levels note Behind behind IsName pending Colon at fits is = absurd fits
mode_completes Array levels note Behind behind IsName pending Value at fits is = absurd fits
mode_completes Object levels note Behind behind IsName pending (Naming mode) at fits is =
    let (rest, left) = string_completes mode in
    let (name, spelled) = (is rest).1 left in
    name_completes (frame Object levels note Behind) behind levels IsName rest name spelled pending.name_from at
mode_completes Object levels note Behind behind IsName pending Colon at fits is =
    colon_completes (frame Object levels note Behind) behind levels pending.name pending.name_from pending.name_to at
mode_completes Object levels note Behind behind IsName pending Value at fits is =
    value_completes (frame Object levels note Behind) behind levels
    (named pending.name pending.name_from pending.name_to) at

-- the brackets around can be closed
frame_completes : (outer : Bracket) (pending : Pending) (levels : ℕ) (inner : List Bracket)
    → Completable (frame_in outer pending levels inner)
frame_completes outer pending levels [] place = ([], [], (refl, refl))
frame_completes outer pending levels (bracket ∷ inner) place =
    within_completes (frame_in outer pending (suc levels) inner) (frame_completes outer pending (suc levels) inner)
    IsNothing [] refl (ended (innermost outer inner) (pending_in inner pending)) place

pub between_completes : (outer : Bracket) (levels : ℕ) (front : List ℕ) (pending : Pending)
    (inner : List Bracket) (mode : Mode) (at : ℕ)
    → Fits (innermost outer inner) mode → IsNamed mode (NameRest front inner mode)
    → (text : List ℕ) × (found : List (Item outer))
    × ModeLeft (innermost outer inner) (frame_in outer pending levels inner) (IsValue levels)
    (NameRest front inner mode) (pending_in inner pending) mode at text found
between_completes outer levels front pending [] mode at fits is =
    mode_completes outer levels (λ item others. item ∷ others) (λ at text found. IsSpace text × (found ≡ []))
    (frame_completes outer pending levels []) (NameRest front [] mode) pending mode at fits is
between_completes outer levels front pending (c ∷ inner) mode at fits is =
    mode_completes c levels (λ item others. others)
    (λ at text found. WithinLeft (frame_in outer pending (suc levels) inner) IsNothing
    (ended (innermost outer inner) (pending_in inner pending)) at text found)
    (frame_completes outer pending levels (c ∷ inner)) (NameRest front (c ∷ inner) mode) no_item mode at fits is

-- ---- before the outermost bracket

pub before_completes : (outer : Bracket) (levels at : ℕ)
    → (text : List ℕ) × (found : List (Item outer))
    × Spaced (ByteThen (opening outer) (λ place rest. FirstLeft (outermost outer levels) place rest found)) at text
before_completes outer levels at =
    let (text, found, h) = first_completes (outermost outer levels) (λ place. ([], [], (refl, refl))) (at + 1) in (
      opening outer ∷ text,
      found,
      spaced_at (ByteThen (opening outer) (λ place rest. FirstLeft (outermost outer levels) place rest found)) at
          (opening outer ∷ text) (text, h, refl),
    )
