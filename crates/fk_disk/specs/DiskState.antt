-- A disk in memory, as a test lays it out.
use Rattle.std.specs.Prelude.{ℕ, List, [], ◌∷◌, ◌++◌, length, map, slice_get, slice_index, slice_index_or}
use Rattle.std.specs.Prelude.{IsSomeAnd, if◌then◌else◌, Bool, true}
use Rattle.std.specs.List.{range_with_len}
use Rattle.fk_io.specs.Faults.{one_more}
use Rattle.fk_io.specs.SourceState.{is_listed}
use Rattle.fk_disk.specs.declared.choice.Choice.{Choice}
use Rattle.fk_disk.specs.declared.choice.Choice.TheVariants.{Old, New, Torn}
use Rattle.fk_disk.specs.Since.{Since, IsImage}

-- the numbers of the calls that fail, how many calls there were, how many of them failed, and how many of
-- those for want of memory
pub record CallState : Type 0 where
  pub failing : List ℕ
  pub made : ℕ
  pub faults : ℕ
  pub starved : ℕ

-- the next call is one of those that fail
abbrev pub fails : CallState → Bool
fails calls = is_listed calls.failing calls.made

-- a call went well
abbrev pub after_call : CallState → CallState
after_call calls = record calls { made = one_more calls.made }

-- a call failed: its number is listed, or it found no memory
abbrev pub after_failure : CallState → CallState
after_failure calls = record calls {
  made = one_more calls.made;
  faults = one_more calls.faults;
  starved = if fails calls then calls.starved else one_more calls.starved;
}

-- what a read gives, what was done since the last good sync, the same at each moment before this one, and
-- the calls
pub record DiskState : Type 0 where
  pub content : List ℕ
  pub since : Since
  pub past : List Since
  pub calls : CallState

-- what a crash may leave at a moment: the model's images for what was done until then
abbrev pub images_of : List Since → Since → ℕ → List ℕ → Type 0
images_of past since at image = IsSomeAnd (slice_get (past ++ since ∷ []) at) (λ done. IsImage done image)

-- each byte, but 255 in the place of one that was written since the last good sync: one with a mark, or
-- past the marks
abbrev pub torn : List ℕ → List Bool → List ℕ
torn content written =
    map (λ place. if slice_index_or written place true then 255 else slice_index content place)
    (range_with_len 0 (length content))

-- the image of a choice
abbrev pub chosen : DiskState → Choice → List ℕ
chosen disk Old = disk.since.synced
chosen disk New = disk.content
chosen disk Torn = torn disk.content disk.since.written
