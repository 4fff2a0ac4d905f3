-- What a byte does in a value or a name: what is left before it is what is left behind it.
use Rattle.std.proofs.Common.{◌≡◌, ◌≢◌, ◌↔◌, ◌==◌, ℕ, ◌+◌, Bool, true, false, List, [], ◌∷◌, Option, None, Some, if◌then◌else◌, refl, sym, subst, ◌∙◌}
use Rattle.std.proofs.lemmas.Bool.{eqb-false, eqb-true}
use Rattle.fk_json.specs.Json.{IsValue}
use Rattle.fk_json.specs.String.{IsString}
use Rattle.fk_json.specs.Tokens.{string_ends, string_step, token_ends, token_first, token_step}
use Rattle.fk_json.specs.TokenRests.{StringLeft, TokenLeft}
use Rattle.fk_json.specs.Moves.{begun, closing, name_led, opening, value_at, value_led}
use Rattle.fk_json.specs.Left.{Frame, IsItem, Item, ModeLeft, NameLeft, Pending, WithinLeft, ended}
use Rattle.fk_json.specs.declared.member.Member.{Member}
use Rattle.fk_json.specs.declared.mode.Bracket.{Bracket}
use Rattle.fk_json.specs.declared.mode.Bracket.TheVariants.{Array, Object}
use Rattle.fk_json.specs.Moves.{Move}
use Rattle.fk_json.specs.Moves.{To, Names, Begins, Opens, Closes, Named, Ended, Stops}
use Rattle.fk_json.specs.declared.string_mode.StringMode.{StringMode}
use Rattle.fk_json.specs.declared.token.Token.{Token}
use Rattle.fk_json.proofs.Fronts.{Closing, EndedLeft, EndedName, after_follows, name_ended, name_on, within_ended, within_on, within_stops}
use Rattle.fk_json.proofs.StringLeft.{string_goes, string_stops, string_unended}
use Rattle.fk_json.proofs.TokenLeft.{none_some, string_open, token_goes, token_may_end, token_over, token_stops, token_unended}
use Rattle.fk_json.proofs.Values.{value_begins, value_empty, value_none}
use Rattle.fk_json.proofs.Equivalences.{by_test, neither, same, through}

-- ---- brackets

-- open brackets around values of at most so many levels
abbrev pub frame : {O : Type 0} (bracket : Bracket) → ℕ → (Item bracket → List O → List O)
    → (ℕ → List ℕ → List O → Type 0) → Frame (Item bracket) O
frame bracket levels note Behind = record {
  IsItem = IsItem bracket (IsValue levels);
  close = closing bracket;
  note = note;
  Behind = Behind;
}

pub closing_closes : (bracket : Bracket) → Closing (closing bracket)
closing_closes Array = record { other = eqb-false 93 44 refl; tight = refl; behind = refl }
closing_closes Object = record { other = eqb-false 125 44 refl; tight = refl; behind = refl }

-- what is left behind a byte, by what the byte did
abbrev pub MoveLeft : {O : Type 0} (bracket : Bracket) → Frame (Item bracket) O → ℕ
    → (List ℕ → List ℕ → Type 0) → Pending → ℕ → ℕ → List ℕ → List O → Move → Type 0
MoveLeft bracket F levels IsName pending b at text found (To mode) =
    ModeLeft bracket F (IsValue levels) (λ rest name. IsName (b ∷ rest) name) pending mode (at + 1) text found
MoveLeft Array F levels IsName pending b at text found Names = ⊥
MoveLeft Object F levels IsName pending b at text found Names =
    NameLeft F (IsValue levels) (λ rest name. IsString (b ∷ rest) name) at (at + 1) text found
MoveLeft bracket F levels IsName pending b at text found (Begins token) =
    WithinLeft F (TokenLeft token) (ended bracket (record pending { from = at })) (at + 1) text found
MoveLeft bracket F levels IsName pending b at text found (Opens inner) =
    WithinLeft F (λ rest. IsValue levels (opening inner ∷ rest))
    (ended bracket (record pending { from = at })) (at + 1) text found
MoveLeft bracket F levels IsName pending b at text found Closes = F.Behind (at + 1) text found
MoveLeft Array F levels IsName pending b at text found Named = ⊥
MoveLeft Object F levels IsName pending b at text found Named =
    EndedName F (IsValue levels) IsName pending.name_from at (b ∷ text) found
MoveLeft bracket F levels IsName pending b at text found Ended =
    EndedLeft F (ended bracket pending) at (b ∷ text) found
MoveLeft bracket F levels IsName pending b at text found Stops = ⊥

-- ---- where a value begins

pub no_value : {I O : Type 0} (F : Frame I O) (levels : ℕ) (item : ℕ → I) (at b : ℕ) (text : List ℕ)
    (found : List O) → ((rest : List ℕ) → ¬ IsValue levels (b ∷ rest))
    → ¬ WithinLeft F (IsValue levels) item at (b ∷ text) found
no_value F levels item at b text found none =
    within_stops F (IsValue levels) item at b text found (value_empty levels) none

begins_on : {I O : Type 0} (F : Frame I O) (levels : ℕ) (L : List ℕ → Type 0) (item : ℕ → I) (at b : ℕ)
    (text : List ℕ) (found : List O) → ((rest : List ℕ) → (IsValue levels (b ∷ rest)) ↔ (L rest))
    → (WithinLeft F (IsValue levels) item at (b ∷ text) found) ↔ (WithinLeft F L item (at + 1) text found)
begins_on F levels L item at b text found goes =
    within_on F (IsValue levels) L item at b text found goes (λ l. absurd (value_empty levels l))

token_begins : {O : Type 0} (bracket : Bracket) (F : Frame (Item bracket) O) (levels : ℕ)
    (IsName : List ℕ → List ℕ → Type 0) (pending : Pending) (at b : ℕ) (text : List ℕ) (found : List O)
    (led : Option Token) → token_first b ≡ led → b ≢ 91 → b ≢ 123
    → (WithinLeft F (IsValue levels) (ended bracket (record pending { from = at })) at (b ∷ text) found)
    ↔ (MoveLeft bracket F levels IsName pending b at text found (begun led))
token_begins bracket F levels IsName pending at b text found None is no_array no_object =
    neither (no_value F levels (ended bracket (record pending { from = at })) at b text found
    (λ rest. value_none levels b rest no_array no_object is))
token_begins bracket F levels IsName pending at b text found (Some token) is no_array no_object =
    begins_on F levels (TokenLeft token) (ended bracket (record pending { from = at })) at b text found
    (λ rest. value_begins levels b token rest no_array no_object is)

same_front : (L : List ℕ → Type 0) (b c : ℕ) → b ≡ c → (rest : List ℕ) → (L (b ∷ rest)) ↔ (L (c ∷ rest))
same_front L b c e rest = (subst (λ x. L (x ∷ rest)) e, subst (λ x. L (x ∷ rest)) (sym e))

pub value_moves : {O : Type 0} (bracket : Bracket) (F : Frame (Item bracket) O) (levels : ℕ)
    (IsName : List ℕ → List ℕ → Type 0) (pending : Pending) (at b : ℕ) (text : List ℕ) (found : List O)
    → (WithinLeft F (IsValue levels) (ended bracket (record pending { from = at })) at (b ∷ text) found)
    ↔ (MoveLeft bracket F levels IsName pending b at text found (value_at b))
value_moves bracket F levels IsName pending at b text found =
    let item = ended bracket (record pending { from = at }) in
    by_test (MoveLeft bracket F levels IsName pending b at text found) (Opens Array)
    (if b == 123 then Opens Object else begun (token_first b)) (b == 91)
    (λ array. begins_on F levels (λ rest. IsValue levels (91 ∷ rest)) item at b text found
    (same_front (IsValue levels) b 91 (eqb-true b 91 array)))
    (λ no_array. by_test (MoveLeft bracket F levels IsName pending b at text found) (Opens Object)
    (begun (token_first b)) (b == 123)
    (λ object. begins_on F levels (λ rest. IsValue levels (123 ∷ rest)) item at b text found
    (same_front (IsValue levels) b 123 (eqb-true b 123 object)))
    (λ no_object. token_begins bracket F levels IsName pending at b text found (token_first b) refl
    (eqb-false b 91 no_array) (eqb-false b 123 no_object)))

-- ---- in a value

not_both : (token : Token) (ends : Bool) → token_ends token ≡ ends → TokenLeft token []
    → ¬ (token_ends token ≡ true) → ⊥
not_both token true may l never = never may
not_both token false may l never = token_unended token may l

pub value_on : {O : Type 0} (bracket : Bracket) (F : Frame (Item bracket) O) (levels : ℕ)
    (IsName : List ℕ → List ℕ → Type 0) (pending : Pending) (token : Token) (at b : ℕ) (text : List ℕ)
    (found : List O) (led : Option Token) (ends : Bool) → Closing F.close → token_step token b ≡ led
    → token_ends token ≡ ends
    → (WithinLeft F (TokenLeft token) (ended bracket pending) at (b ∷ text) found)
    ↔ (MoveLeft bracket F levels IsName pending b at text found (value_led ends led))
value_on bracket F levels IsName pending token at b text found (Some next) ends closing is may =
    within_on F (TokenLeft token) (TokenLeft next) (ended bracket pending) at b text found
    (λ rest. token_goes token next b rest is)
    (λ l place others after.
    not_both token ends may l (λ e.
    none_some (sym (token_over token b e (after_follows F place b text others closing after)) ∙ is)))
value_on bracket F levels IsName pending token at b text found None true closing is may =
    within_ended F (TokenLeft token) (ended bracket pending) at b text found (token_may_end token may)
    (λ rest. token_stops token b rest is)
value_on bracket F levels IsName pending token at b text found None false closing is may =
    neither (within_stops F (TokenLeft token) (ended bracket pending) at b text found
    (token_unended token may) (λ rest. token_stops token b rest is))

-- ---- in a name

pub name_moves : {O : Type 0} (F : Frame Member O) (levels : ℕ)
    (IsName : List ℕ → List ℕ → Type 0) (pending : Pending) (mode : StringMode) (at b : ℕ) (text : List ℕ)
    (found : List O) (led : Option StringMode) (ends : Bool) → string_step mode b ≡ led
    → string_ends mode ≡ ends
    → ((rest : List ℕ) → ((name : List ℕ) × IsName rest name) ↔ (StringLeft mode rest))
    → (NameLeft F (IsValue levels) IsName pending.name_from at (b ∷ text) found)
    ↔ (MoveLeft Object F levels IsName pending b at text found (name_led ends led))
name_moves F levels IsName pending mode at b text found (Some next) ends is may named =
    name_on F (IsValue levels) IsName (λ rest name. IsName (b ∷ rest) name) pending.name_from at b text found
    (λ rest name. same)
    (λ name l. string_unended mode (string_open mode next b is) ((named []).0 (name, l)))
name_moves F levels IsName pending mode at b text found None true is may named =
    name_ended F (IsValue levels) IsName pending.name_from at b text found
    (λ rest name l. string_stops mode b rest is ((named (b ∷ rest)).0 (name, l)))
name_moves F levels IsName pending mode at b text found None false is may named =
    neither (λ h.
    let over = (name_ended F (IsValue levels) IsName pending.name_from at b text found
    (λ rest name l. string_stops mode b rest is ((named (b ∷ rest)).0 (name, l)))).0 h in
    string_unended mode may ((named []).0 (over.0, over.1)))

-- what is known of a name goes on
pub named_on : (IsName : List ℕ → List ℕ → Type 0) (mode next : StringMode) (b : ℕ)
    → string_step mode b ≡ Some next
    → ((rest : List ℕ) → ((name : List ℕ) × IsName rest name) ↔ (StringLeft mode rest))
    → (rest : List ℕ) → ((name : List ℕ) × IsName (b ∷ rest) name) ↔ (StringLeft next rest)
named_on IsName mode next b is named rest = through (named (b ∷ rest)) (string_goes mode next b rest is)
