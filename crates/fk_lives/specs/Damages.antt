-- The first damage of a pair of files, of which no file is written by a server: which file, and the place in it.
use Rattle.std.specs.Prelude.{◌≡◌, ◌⊎◌, ℕ, ◌+◌, ◌<◌, ◌≤◌, ◌^◌, List, [], ◌∷◌, length, take, drop}
use Rattle.fk_journal.specs.declared.fault.Damage.{Damage}
use Rattle.fk_journal.specs.declared.fault.File.TheVariants.{A, B}
use Rattle.fk_journal.specs.Limits.{greatest_number}
use Rattle.fk_journal.specs.Pieces.{BeginWith, IsClosedAt}
use Rattle.fk_model.specs.declared.move_.Move.{Move}
use Rattle.fk_model.specs.State.{untold}
use Rattle.fk_model.specs.Changes.{after_moves, EndsWithTotals, FitInTurn}
use Rattle.fk_moves.specs.Lists.{Spells}
use Rattle.fk_moves.specs.Spelling.{word_bytes, moves_bytes}
use Rattle.fk_lives.specs.declared.header.Header.{Header}
use Rattle.fk_lives.specs.Files.{magic, version, snapshot_at, Contents, AreContents, IsBlank, IsGeneration, front_of, moves_in, number_in}

-- ---- the header

-- a number of eight bytes stands whole at a place
pub record HasNumber (at number : ℕ) (file : List ℕ) : Type 0 where
  pub word : number < 2 ^ 64
  pub bytes : take 8 (drop at file) ≡ word_bytes number

-- each field of the header, whole and right
abbrev pub HasMagic : List ℕ → Type 0
HasMagic file = take 8 (drop 1 file) ≡ magic

abbrev pub HasVersion : List ℕ → Type 0
HasVersion file = take 1 (drop 9 file) ≡ version ∷ []

abbrev pub HasGeneration : List ℕ → Type 0
HasGeneration file = (generation : ℕ) × HasNumber 10 generation file × IsGeneration generation

abbrev pub HasBase : List ℕ → Type 0
HasBase file = (base : ℕ) × HasNumber 18 base file × (base ≤ greatest_number)

abbrev pub HasSnapshotLength : List ℕ → Type 0
HasSnapshotLength file = (n : ℕ) × HasNumber 26 n file

-- the header is whole and right, and tells this
pub record HasHeader (header : Header) (file : List ℕ) : Type 0 where
  pub known : HasMagic file
  pub versioned : HasVersion file
  pub generation : HasNumber 10 header.generation file × IsGeneration header.generation
  pub base : HasNumber 18 header.base file × (header.base ≤ greatest_number)
  pub snapshot : HasNumber 26 header.length file

-- the first field of the header that is cut or wrong begins at this place
abbrev pub IsHeaderDamagedAt : ℕ → List ℕ → Type 0
IsHeaderDamagedAt at file =
    ((at ≡ 1) × (¬ HasMagic file))
    ⊎ ((at ≡ 9) × HasMagic file × (¬ HasVersion file))
    ⊎ ((at ≡ 10) × HasMagic file × HasVersion file × (¬ HasGeneration file))
    ⊎ ((at ≡ 18) × HasMagic file × HasVersion file × HasGeneration file × (¬ HasBase file))
    ⊎ ((at ≡ 26) × HasMagic file × HasVersion file × HasGeneration file × HasBase file
    × (¬ HasSnapshotLength file))

-- ---- the snapshot

-- moves are a list as a file has them, and each fits behind others
pub record AreNext (before moves : List Move) : Type 0 where
  pub list : EndsWithTotals moves
  pub fit : FitInTurn (after_moves untold before) moves

-- the bytes of the snapshot are all there, and spell moves that fit
pub record IsSnapshot (n : ℕ) (moves : List Move) (file : List ℕ) : Type 0 where
  pub there : snapshot_at + n ≤ length file
  pub spells : Spells (take n (drop snapshot_at file)) moves
  pub next : AreNext [] moves

-- the header is right, and no such snapshot stands behind it
pub record IsSnapshotDamaged (file : List ℕ) : Type 0 where
  pub header : Header
  pub right : HasHeader header file
  pub none : (moves : List Move) → ¬ IsSnapshot header.length moves file

-- ---- the pieces

-- up to the gate of the next piece the file tells this, and all of its moves fit
pub record IsGoodUpTo (contents : Contents) (file : List ℕ) : Type 0 where
  pub are : AreContents contents
  pub front : take (length (front_of contents)) file ≡ front_of contents
  pub fit : FitInTurn untold (moves_in contents)

-- the piece with these moves stands at a place, and they fit behind those of the file before it
pub record IsNextPiece (contents : Contents) (at : ℕ) (moves : List Move) (file : List ℕ) : Type 0 where
  pub begins : BeginWith (number_in contents) (moves_bytes moves) (drop at file)
  pub next : AreNext (moves_in contents) moves

-- up to this place the file is good, and there no gate is closed and no good piece begins: so the file ends where
-- a gate byte is due, or its gate is open before what is cut, has a wrong number, or tells no moves that fit
pub record IsPieceDamagedAt (at : ℕ) (file : List ℕ) : Type 0 where
  pub contents : Contents
  pub good : IsGoodUpTo contents file
  pub here : at ≡ length (front_of contents)
  pub not_closed : ¬ IsClosedAt at file
  pub no_piece : (moves : List Move) → ¬ IsNextPiece contents at moves file

-- ---- a pair of files

-- a file that isn't blank is first damaged at this place
abbrev pub IsDamagedFileAt : ℕ → List ℕ → Type 0
IsDamagedFileAt at file =
    IsHeaderDamagedAt at file ⊎ ((at ≡ snapshot_at) × IsSnapshotDamaged file) ⊎ IsPieceDamagedAt at file

-- The first damage of a pair: file B isn't blank, which is told at its place 0; or else file A isn't blank, and is
-- damaged there.
abbrev pub IsFirstDamage : List ℕ → List ℕ → Damage → Type 0
IsFirstDamage a b damage =
    ((damage ≡ record { file = B; at = 0 }) × (¬ IsBlank b))
    ⊎ ((damage ≡ record { file = A; at = damage.at }) × IsBlank b × (¬ IsBlank a) × IsDamagedFileAt damage.at a)
