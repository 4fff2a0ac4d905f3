-- The state of the server: what is kept over a restart, and the workers.
use Rattle.std.specs.Prelude.{ℕ, List, []}
use Rattle.fk_model.specs.declared.row.Row.{Row}
use Rattle.fk_model.specs.declared.work_state.WorkState.{WorkState}

-- The kept state: the rows under their tickets, in order of ticket, the next ticket or rank, and,
-- since the last flush, how often a job was done or failed, and how often one failed.
pub record KeptState : Type 0 where
  pub rows : List (ℕ × Row)
  pub next : ℕ
  pub processed : ℕ
  pub failures : ℕ

-- a worker: its name, its state, and the moment of its last HELLO or BEAT
pub record Worker : Type 0 where
  pub wid : List ℕ
  pub state : WorkState
  pub seen : ℕ

-- the state: what is kept, and the workers in the order in which they first came
pub record State : Type 0 where
  pub kept : KeptState
  pub workers : List Worker

-- the empty kept state, with which a new server begins
abbrev pub empty : KeptState
empty = record { rows = []; next = 1; processed = 0; failures = 0 }

-- what moves lead from, where they tell a whole kept state: no row, and each number 0
abbrev pub untold : KeptState
untold = record { rows = []; next = 0; processed = 0; failures = 0 }

-- the state of a kept state and workers
abbrev pub with_workers : KeptState → List Worker → State
with_workers kept workers = record { kept = kept; workers = workers }

-- the state with this kept state and no worker, as a server has it when it begins
abbrev pub without_workers : KeptState → State
without_workers kept = record { kept = kept; workers = [] }
