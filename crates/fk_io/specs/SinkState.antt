-- A sink in memory, as a test lays it out.
use Rattle.std.specs.Prelude.{ℕ, List, ◌++◌, if◌then◌else◌}
use Rattle.fk_io.specs.Faults.{one_more}
use Rattle.fk_io.specs.SourceState.{is_listed}

-- the bytes that it holds, the numbers of the calls that fail, how many calls there were, how many
-- of them failed, and how many of those for want of memory
pub record SinkState : Type 0 where
  pub held : List ℕ
  pub failing : List ℕ
  pub calls : ℕ
  pub faults : ℕ
  pub starved : ℕ

-- a write of these bytes went well
abbrev pub after_write : SinkState → List ℕ → SinkState
after_write sink piece = record sink { held = sink.held ++ piece; calls = one_more sink.calls }

-- a write failed: its number is listed, or it found no memory
abbrev pub after_failure : SinkState → SinkState
after_failure sink = record sink {
  calls = one_more sink.calls;
  faults = one_more sink.faults;
  starved = if is_listed sink.failing sink.calls then sink.starved else one_more sink.starved;
}
