-- The laws of a field: what is read has a spelling, which the bytes begin with; each spelling is read;
-- and where reading stops, the bytes up to there begin a spelling, and no more of them do.
use Rattle.std.proofs.Common.{◌≡◌, ℕ, ◌≤◌, List, ◌++◌, length, Ok, Err}
use Rattle.fk_job.specs.Spellings.{AreBytes}
use Rattle.fk_moves.specs.Fields.{Field}

pub record IsStuck {T : Type 0} (field : Field T) (bytes : List ℕ) (left : ℕ) : Type 0 where
  pub front : List ℕ
  pub back : List ℕ
  pub parts : bytes ≡ front ++ back
  pub behind : length back ≡ left
  pub more : List ℕ
  pub value : T
  pub has : field.Has value
  pub begins : front ++ more ≡ field.spelled value
  pub longest : (a b c : List ℕ) (v : T) → bytes ≡ a ++ b → field.Has v
      → a ++ c ≡ field.spelled v → length a ≤ length front

pub record IsField {T : Type 0} (field : Field T) : Type 0 where
  pub takes : (bytes rest : List ℕ) (v : T) → AreBytes bytes → field.read bytes ≡ Ok (v, rest)
      → field.Has v × (bytes ≡ field.spelled v ++ rest)
  pub again : (v : T) (rest : List ℕ) → field.Has v
      → field.read (field.spelled v ++ rest) ≡ Ok (v, rest)
  pub stuck : (bytes : List ℕ) (left : ℕ) → AreBytes bytes → field.read bytes ≡ Err left
      → IsStuck field bytes left
  pub some : T
  pub has : field.Has some
