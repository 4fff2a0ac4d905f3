-- A source in memory, as a test lays it out.
use Rattle.std.specs.Prelude.{ℕ, ◌==◌, Bool, List, [], ◌∷◌, length, take, drop, min, max}
use Rattle.std.specs.Prelude.{if◌then◌else◌}
use Rattle.std.specs.List.{list_any}
use Rattle.fk_io.specs.Faults.{one_more}

-- the bytes to come, those of the last good read, the most bytes of each piece to come, the numbers of
-- the calls that fail, how many calls there were, and how many of them failed
pub record SourceState : Type 0 where
  pub left : List ℕ
  pub last : List ℕ
  pub cuts : List ℕ
  pub failing : List ℕ
  pub calls : ℕ
  pub faults : ℕ

-- the call with this number is listed as one that fails
abbrev pub is_listed : List ℕ → ℕ → Bool
is_listed failing call = list_any (λ number. number == call) failing

-- at most this many bytes come at once: as many as asked for, and no more than the next cut, where
-- a cut of 0 counts as 1
abbrev pub longest_piece : List ℕ → ℕ → ℕ
longest_piece [] asked = asked
longest_piece (cut ∷ cuts) asked = min asked (max cut 1)

-- how many bytes come into a buffer of this length
abbrev pub piece_length : SourceState → ℕ → ℕ
piece_length source asked = min (length source.left) (longest_piece source.cuts asked)

-- what a read into a buffer of this length leaves: a listed call fails, and any other one gives a
-- piece and uses up one cut, also where the piece is empty
abbrev pub after_read : SourceState → ℕ → SourceState
after_read source asked =
    if is_listed source.failing source.calls
    then record source { calls = one_more source.calls; faults = one_more source.faults }
    else record source {
      left = drop (piece_length source asked) source.left;
      last = take (piece_length source asked) source.left;
      cuts = drop 1 source.cuts;
      calls = one_more source.calls;
    }
