-- A field of a format: which values have a spelling, what it is, and what is read from the front of bytes.
use Rattle.std.specs.Prelude.{◌≡◌, ℕ, zero, suc, ◌-◌, ◌<◌, ◌^◌, Bool, true, false, ◌&&◌, nat_lt, nat_le, ◌==◌, if◌then◌else◌, IsTrue, List, [], ◌∷◌, ◌++◌, length, take, drop, replicate, Option, None, Some, MatchOption, Result, Ok, Err, IsOk}
use Rattle.std.specs.Borrow.{Bor}
use Rattle.std.specs.Int.{Width, byte_len, to_be_bytes, from_be_bytes}
use Rattle.fk_job.specs.Spellings.{AreBytes}
use Rattle.fk_moves.specs.declared.stop.Stop.{Stop}
use Rattle.fk_moves.specs.declared.stop.Stop.TheVariants as stops
use Rattle.fk_moves.specs.declared.fault.MovesFault.{MovesFault}
use Rattle.fk_moves.specs.declared.fault.MovesFault.TheVariants.{BadMoves, NoMemory}

-- what is read: a value and the bytes behind it, or how many bytes stand behind the longest front with
-- which a value may begin
abbrev pub Reading : Type 0 → Type 0
Reading T = Result (T × List ℕ) ℕ

-- a field: the spelling of a value, whether it has one, and what is read of bytes
pub record Field (T : Type 0) : Type 1 where
  pub spelled : T → List ℕ
  pub Has : T → Type 0
  pub read : List ℕ → Reading T

-- reading stops as a function does, unless memory runs out
abbrev pub Fails : {T : Type 0} → Stop → Reading T → Type 0
Fails stops.NoMemory reading = Unit {0}
Fails (stops.At left) reading = reading ≡ Err left

-- the fault of reading that stops among so many bytes
abbrev pub fault_at : Stop → ℕ → MovesFault
fault_at stops.NoMemory count = NoMemory
fault_at (stops.At left) count = BadMoves (count - left)

-- what a function gives is what is read
abbrev pub Gives : {T : Type 0} → Result (T × Bor (List ℕ)) Stop → Reading T → Type 0
Gives (Ok found) reading = reading ≡ Ok (found.0, found.1.now)
Gives (Err stop) reading = Fails stop reading

-- the same of a front of the bytes
abbrev pub GivesBytes : Result (Bor (List ℕ) × Bor (List ℕ)) Stop → Reading (List ℕ) → Type 0
GivesBytes (Ok found) reading = reading ≡ Ok (found.0.now, found.1.now)
GivesBytes (Err stop) reading = Fails stop reading

-- whether reading stops, and where
abbrev pub StopsAs : {T U : Type 0} → Result U Stop → Reading T → Type 0
StopsAs (Ok found) reading = IsOk reading
StopsAs (Err stop) reading = Fails stop reading

-- reading on behind what was read
infixl 10 ◌>>=◌
abbrev pub ◌>>=◌ : {A B : Type 0} → Result A ℕ → (A → Result B ℕ) → Result B ℕ
(Ok found) >>= next = next found
(Err left) >>= next = Err left

-- the bytes of what may be absent
abbrev pub bytes_of : {A : Type 0} → Option A → (A → List ℕ) → List ℕ
bytes_of None spelled = []
bytes_of (Some value) spelled = spelled value

-- no bytes, for one value alone
abbrev pub nothing : {T : Type 0} → T → Field T
nothing value = record {
  spelled = λ _. [];
  Has = λ other. other ≡ value;
  read = λ bytes. Ok (value, bytes);
}

-- a part of a value, and behind it the others, as that part says
abbrev pub part : {T A : Type 0} → (T → Option A) → Field A → (A → Field T) → Field T
part which field others = record {
  spelled = λ value. bytes_of (which value) (λ found. field.spelled found ++ (others found).spelled value);
  Has = λ value. MatchOption (which value) ⊥ (λ found. field.Has found × (others found).Has value);
  read = λ bytes. field.read bytes >>= λ x. (others x.0).read x.1;
}

-- one field or another
abbrev pub choose : {T : Type 0} → Bool → Field T → Field T → Field T
choose true field other = field
choose false field other = other

-- a byte that passes a test
abbrev pub read_byte : (ℕ → Bool) → List ℕ → Reading ℕ
read_byte test [] = Err 0
read_byte test (byte ∷ rest) = if test byte then Ok (byte, rest) else Err (length (byte ∷ rest))

-- a byte that passes a test, as a field
abbrev pub byte_where : (ℕ → Bool) → Field ℕ
byte_where test = record {
  spelled = λ byte. byte ∷ [];
  Has = λ byte. (byte < 256) × IsTrue (test byte);
  read = read_byte test;
}

-- any number of a width
abbrev pub whole : Width → Field ℕ
whole w = record {
  spelled = λ number. to_be_bytes w number;
  Has = λ number. number < 256 ^ byte_len w;
  read = λ bytes. if nat_lt (length bytes) (byte_len w) then Err 0
      else Ok (from_be_bytes w (take (byte_len w) bytes), drop (byte_len w) bytes);
}

-- so many bytes
abbrev pub so_many : ℕ → Field (List ℕ)
so_many count = record {
  spelled = λ bytes. bytes;
  Has = λ bytes. AreBytes bytes × (length bytes ≡ count);
  read = λ bytes. if nat_lt (length bytes) count then Err 0
      else Ok (take count bytes, drop count bytes);
}

-- the first item of a list, and the items behind it
abbrev pub first_of : {A : Type 0} → List A → Option A
first_of [] = None
first_of (first ∷ items) = Some first

-- the items behind the first
abbrev pub rest_of : {A : Type 0} → List A → Option (List A)
rest_of [] = None
rest_of (first ∷ items) = Some items

-- an item, and behind it the others
abbrev pub behind : {A : Type 0} → A → Field (List A) → Field (List A)
behind first others = part rest_of others (λ items. nothing (first ∷ items))

-- so many items of one kind
unfoldable pub times : {A : Type 0} → Field A → ℕ → Field (List A)
times field zero = nothing []
times field (suc count) = part first_of field (λ first. behind first (times field count))

-- the bytes from some to others in the order of numbers: behind the first byte of the least others may
-- be less, and behind that of the most greater
unfoldable pub within : ℕ → List ℕ → List ℕ → Field (List ℕ)
within zero least most = nothing []
within (suc count) [] most = nothing []
within (suc count) (low ∷ least) [] = nothing []
within (suc count) (low ∷ least) (high ∷ most) =
    part first_of (byte_where (λ byte. nat_le low byte && nat_le byte high)) (λ byte.
    behind byte (within count (if byte == low then least else replicate count 0)
    (if byte == high then most else replicate count 255)))
