-- Values without brackets, read byte by byte: what is left behind a byte, and where they may end.
use Rattle.std.proofs.Common.{◌≡◌, ◌↔◌, ℕ, true, false, List, [], ◌∷◌, Option, None, Some, refl, sym, ap, subst, ◌∙◌}
use Rattle.std.specs.Prelude.{option_map, unwrap_or}
use Rattle.std.proofs.lemmas.Bool.{false≢true}
use Rattle.fk_json.specs.Tokens.{letters_end, letters_step, number_step, string_ends, string_step, token_ends, token_step}
use Rattle.fk_json.specs.TokenRests.{TokenLeft, follows, letters_text}
use Rattle.fk_json.specs.declared.string_mode.StringMode.{StringMode}
use Rattle.fk_json.specs.declared.string_mode.StringMode.TheVariants.{Inside, Escape, Four, Three, Two, One, LastByte, TwoBytes, ThreeBytes, NotOverlongOfThree, NoSurrogate, NotOverlongOfFour, NotPastTheLast, Closed}
use Rattle.fk_json.specs.declared.token.Letters.{Letters}
use Rattle.fk_json.specs.declared.token.Letters.TheVariants.{Ull, Ll, L, Rue, Ue, E, Alse, Lse, Se, Nothing}
use Rattle.fk_json.specs.declared.token.Token.{Token}
use Rattle.fk_json.specs.declared.token.Token.TheVariants as token
use Rattle.fk_json.proofs.LettersLeft.{letters_goes, letters_may_end, letters_stops, letters_unended}
use Rattle.fk_json.proofs.NumberLeft.{number_completes, number_goes, number_may_end, number_over, number_stops, number_unended}
use Rattle.fk_json.proofs.StringCompletes.{string_completes}
use Rattle.fk_json.proofs.StringLeft.{string_goes, string_may_end, string_stops, string_unended}

-- ---- an optional value

pub same_some : {X : Type 0} {x y : X} → Some x ≡ Some y → x ≡ y
same_some {x = x} e = ap (λ o. unwrap_or o x) e

abbrev Absent : {X : Type 0} → Option X → Type 0
Absent None = Unit {0}
Absent (Some x) = ⊥

pub none_some : {X : Type 0} {x : X} → ¬ (None ≡ Some x)
none_some e = subst Absent e tt

mapped_some : {X Y : Type 0} (f : X → Y) (o : Option X) (y : Y) → option_map f o ≡ Some y
    → (x : X) × (o ≡ Some x) × (f x ≡ y)
mapped_some f None y e = absurd (none_some e)
mapped_some f (Some x) y e = (x, refl, same_some e)

mapped_none : {X Y : Type 0} (f : X → Y) (o : Option X) → option_map f o ≡ None → o ≡ None
mapped_none f None e = refl
mapped_none f (Some x) e = absurd (none_some (sym e))

abbrev first : List ℕ → Option ℕ
first [] = None
first (b ∷ text) = Some b

no_bytes : (b : ℕ) (text : List ℕ) → ¬ (b ∷ text ≡ [])
no_bytes b text e = none_some (sym (ap first e))

-- ---- behind a byte

goes_to : (token to next : Token) (b : ℕ) (text : List ℕ) → to ≡ next
    → (TokenLeft token (b ∷ text)) ↔ (TokenLeft to text)
    → (TokenLeft token (b ∷ text)) ↔ (TokenLeft next text)
goes_to token to next b text e h = subst (λ x. (TokenLeft token (b ∷ text)) ↔ (TokenLeft x text)) e h

pub token_goes : (token next : Token) (b : ℕ) (text : List ℕ) → token_step token b ≡ Some next
    → (TokenLeft token (b ∷ text)) ↔ (TokenLeft next text)
token_goes (token.Number mode) next b text e =
    let m = mapped_some token.Number (number_step mode b) next e in
    goes_to (token.Number mode) (token.Number m.0) next b text m.2 (number_goes mode m.0 b text m.1)
token_goes (token.Quoted mode) next b text e =
    let m = mapped_some token.Quoted (string_step mode b) next e in
    goes_to (token.Quoted mode) (token.Quoted m.0) next b text m.2 (string_goes mode m.0 b text m.1)
token_goes (token.Letters left) next b text e =
    let m = mapped_some token.Letters (letters_step left b) next e in
    goes_to (token.Letters left) (token.Letters m.0) next b text m.2 (letters_goes left m.0 b text m.1)
token_goes token.Bracketed next b text e = absurd (none_some e)

pub token_stops : (token : Token) (b : ℕ) (text : List ℕ) → token_step token b ≡ None
    → ¬ TokenLeft token (b ∷ text)
token_stops (token.Number mode) b text e = number_stops mode b text (mapped_none token.Number (number_step mode b) e)
token_stops (token.Quoted mode) b text e = string_stops mode b text (mapped_none token.Quoted (string_step mode b) e)
token_stops (token.Letters left) b text e = letters_stops left b text (mapped_none token.Letters (letters_step left b) e)
token_stops token.Bracketed b text e = no_bytes b text

-- ---- where a value may end

pub token_may_end : (token : Token) → token_ends token ≡ true → TokenLeft token []
token_may_end (token.Number mode) e = number_may_end mode e
token_may_end (token.Quoted mode) e = string_may_end mode e
token_may_end (token.Letters left) e = letters_may_end left e
token_may_end token.Bracketed e = refl

pub token_unended : (token : Token) → token_ends token ≡ false → ¬ TokenLeft token []
token_unended (token.Number mode) e = number_unended mode e
token_unended (token.Quoted mode) e = string_unended mode e
token_unended (token.Letters left) e = letters_unended left e
token_unended token.Bracketed e = absurd (false≢true (sym e))

pub string_open : (mode next : StringMode) (b : ℕ) → string_step mode b ≡ Some next
    → string_ends mode ≡ false
string_open Inside next b e = refl
string_open Escape next b e = refl
string_open Four next b e = refl
string_open Three next b e = refl
string_open Two next b e = refl
string_open One next b e = refl
string_open LastByte next b e = refl
string_open TwoBytes next b e = refl
string_open ThreeBytes next b e = refl
string_open NotOverlongOfThree next b e = refl
string_open NoSurrogate next b e = refl
string_open NotOverlongOfFour next b e = refl
string_open NotPastTheLast next b e = refl
string_open Closed next b e = absurd (none_some e)

string_over : (mode : StringMode) (b : ℕ) (led : Option StringMode) → string_step mode b ≡ led
    → string_ends mode ≡ true → led ≡ None
string_over mode b None e ends = refl
string_over mode b (Some next) e ends = absurd (false≢true (sym (string_open mode next b e) ∙ ends))

letters_open : (left : Letters) (b : ℕ) → letters_end left ≡ true → letters_step left b ≡ None
letters_open Ull b e = absurd (false≢true e)
letters_open Ll b e = absurd (false≢true e)
letters_open L b e = absurd (false≢true e)
letters_open Rue b e = absurd (false≢true e)
letters_open Ue b e = absurd (false≢true e)
letters_open E b e = absurd (false≢true e)
letters_open Alse b e = absurd (false≢true e)
letters_open Lse b e = absurd (false≢true e)
letters_open Se b e = absurd (false≢true e)
letters_open Nothing b e = refl

-- a byte that may stand behind a value doesn't lead on in a value that may end
pub token_over : (token : Token) (b : ℕ) → token_ends token ≡ true → follows b ≡ true
    → token_step token b ≡ None
token_over (token.Number mode) b ends f = ap (λ o. option_map token.Number o) (number_over mode b ends f)
token_over (token.Quoted mode) b ends f = ap (λ o. option_map token.Quoted o) (string_over mode b (string_step mode b) refl ends)
token_over (token.Letters left) b ends f = ap (λ o. option_map token.Letters o) (letters_open left b ends)
token_over token.Bracketed b ends f = refl

-- each rest can be written
pub token_completes : (token : Token) → (text : List ℕ) × TokenLeft token text
token_completes (token.Number mode) = number_completes mode
token_completes (token.Quoted mode) = string_completes mode
token_completes (token.Letters left) = (letters_text left, refl)
token_completes token.Bracketed = ([], refl)
