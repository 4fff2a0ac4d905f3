-- What a session on one connection does, by how it ends.
use Rattle.std.specs.Prelude.{◌≡◌, ◌≢◌, ◌⊎◌, ℕ, ◌-◌, ◌<◌, ◌≤◌, ◌^◌, List, [], ◌++◌, length, drop}
use Rattle.std.specs.Prelude.{slice_index, Option, IfSome, option_to_list}
use Rattle.fk_io.specs.declared.fault.Ended.{Ended}
use Rattle.fk_io.specs.declared.fault.Ended.TheVariants.{Closed, ReadFault, WriteFault, Spent, NoMemory}
use Rattle.fk_io.specs.Content.{Supply, Written, Took, Gained, IsAtEnd}
use Rattle.fk_io.specs.Faults.{Rose}
use Rattle.fk_frame.specs.Bytes.{line_feed}
use Rattle.fk_model.specs.declared.entry.Entry.{Entry}
use Rattle.fk_model.specs.declared.gate.Gate.{Gate}
use Rattle.fk_model.specs.declared.item.Item.{Item}
use Rattle.fk_model.specs.Handshake.{greeting}
use Rattle.fk_model.specs.Script.{IsOver, IsScript}
use Rattle.fk_model.specs.Out.{asks_of, out, output}
use Rattle.fk_conn.specs.Turning.{answers_in, asks_in}

-- the most bytes that one read asks for
abbrev pub most_read : ℕ
most_read = 4096

-- the most bytes that are taken from one connection
abbrev pub most_taken : ℕ
most_taken = 2 ^ 62

-- what a session's input and output tell
pub record Wire : Type 0 where
  pub input : Supply
  pub out : Written

abbrev pub wire : Supply → Written → Wire
wire input out = record { input = input; out = out }

-- one list begins another, or is all of it
abbrev pub Begins : List ℕ → List ℕ → Type 0
Begins front whole = (rest : List ℕ) × (whole ≡ front ++ rest)

-- one list begins another, and is less than all of it
abbrev pub IsPartOf : List ℕ → List ℕ → Type 0
IsPartOf front whole = (rest : List ℕ) × (0 < length rest) × (whole ≡ front ++ rest)

-- a turn was made for each ask, and the greeting and every reply was written whole
pub record IsAnswered (gate : Gate) (items : List Item) (history : List Entry) (written : List ℕ) :
    Type 0 where
  pub asks : asks_in history ≡ asks_of items
  pub replies : written ≡ output gate items (answers_in history)

-- what was written behind the greeting
abbrev pub behind_greeting : Gate → List ℕ → List ℕ
behind_greeting gate written = drop (length (greeting gate)) written

-- The first lines were answered whole, and at most one line more was begun to be. The turns made
-- are those of their asks, one for each, and nothing was written but the replies to them. So no
-- line whose reply was written whole is among the others.
pub record IsAnsweredSoFar (gate : Gate) (items : List Item) (history : List Entry) (written : List ℕ) :
    Type 0 where
  pub answered : List Item
  pub begun : Option Item
  pub others : List Item
  pub are_all : items ≡ (answered ++ option_to_list begun) ++ others
  pub asks : asks_in history ≡ asks_of (answered ++ option_to_list begun)
  pub whole : Begins (out answered (answers_in history)) (behind_greeting gate written)
  pub no_more : Begins written (output gate (answered ++ option_to_list begun) (answers_in history))

-- Bytes were taken that don't end the talk, and then a piece more: what the last good read gave, where
-- the input tells that, and no more than one read asks for. A turn was made for each ask of the bytes
-- before the piece, and all that is due to the whole lines in them was written. So each piece was
-- answered before the next was read.
pub record IsBehindByPiece
    (gate : Gate) (input : Supply) (taken : List ℕ) (history : List Entry) (written : List ℕ)
    : Type 0 where
  pub before : List ℕ
  pub piece : List ℕ
  pub items : List Item
  pub made : List Entry
  pub later : List Entry
  pub all : taken ≡ before ++ piece
  pub last : IfSome input.last (λ bytes. bytes ≡ piece)
  pub short : length piece ≤ most_read
  pub going : ¬ IsOver gate before
  pub script : IsScript gate before items
  pub turns : history ≡ made ++ later
  pub asks : asks_in made ≡ asks_of items
  pub replies : Begins (output gate items (answers_in made)) written

-- all that is due to the whole lines in the bytes before the last piece was written, and none of those
-- ends the talk; or nothing was taken
abbrev pub IsPrompt : Gate → Supply → List ℕ → List Entry → List ℕ → Type 0
IsPrompt gate input taken history written =
    (taken ≡ []) ⊎ IsBehindByPiece gate input taken history written

-- there is such a last piece, and it has some bytes
abbrev pub IsWithinPiece : Gate → Supply → List ℕ → List Entry → List ℕ → Type 0
IsWithinPiece gate input taken history written =
    (behind : IsBehindByPiece gate input taken history written) × (0 < length behind.piece)

-- the bytes end in the middle of a line: the last of them is no line feed
abbrev pub EndsMidLine : List ℕ → Type 0
EndsMidLine bytes = slice_index bytes (length bytes - 1) ≢ line_feed

-- Something was left for which memory may have been wanted: not all was answered; or the talk is over, and
-- its last line may have been still to be read; or the bytes end in the middle of a line.
abbrev pub WantedMemory : Gate → List ℕ → List Item → List Entry → List ℕ → Type 0
WantedMemory gate taken items history written =
    ¬ IsAnswered gate items history written ⊎ (IsOver gate taken ⊎ EndsMidLine taken)

-- more might have been taken, and nothing was to come, where that is told
abbrev pub IsReadToEnd : Wire → List ℕ → Type 0
IsReadToEnd new taken = (length taken < most_taken) × IsAtEnd new.input.left

-- what each end says
abbrev pub HasEnded : Gate → Ended → Wire → List ℕ → List Item → List Entry → List ℕ → Type 0
-- all was answered, and the client ended the talk or has no more to say
HasEnded gate Closed new taken items history written =
    IsAnswered gate items history written
    × (IsOver gate taken ⊎ (¬ IsOver gate taken × IsReadToEnd new taken))
-- all was answered, and the next read failed
HasEnded gate ReadFault new taken items history written =
    IsAnswered gate items history written × ¬ IsOver gate taken × (length taken < most_taken)
-- a write failed: the greeting and the replies were written up to some byte, and not to their end
HasEnded gate WriteFault new taken items history written =
    IsPartOf written (output gate items (answers_in history))
    × IsAnsweredSoFar gate items history written
-- all was answered, and no more bytes may be read
HasEnded gate Spent new taken items history written =
    IsAnswered gate items history written × ¬ IsOver gate taken × (length taken ≡ most_taken)
-- memory ran out at the lines of a piece that was read, for something that was left to do: the greeting
-- and the replies were written up to some byte
HasEnded gate NoMemory new taken items history written =
    Begins written (output gate items (answers_in history))
    × IsAnsweredSoFar gate items history written
    × IsWithinPiece gate new.input taken history written
    × WantedMemory gate taken items history written

-- no read failed, and no write
abbrev pub ReadsWell : Wire → Wire → Type 0
ReadsWell old new = new.input.faults ≡ old.input.faults

abbrev pub WritesWell : Wire → Wire → Type 0
WritesWell old new = new.out.faults ≡ old.out.faults

-- a session that ended by a fault had that one, and any other session had none
abbrev pub HasFaults : Ended → Wire → Wire → Type 0
HasFaults Closed old new = ReadsWell old new × WritesWell old new
HasFaults ReadFault old new = Rose old.input.faults new.input.faults × WritesWell old new
HasFaults WriteFault old new = ReadsWell old new × Rose old.out.faults new.out.faults
HasFaults Spent old new = ReadsWell old new × WritesWell old new
HasFaults NoMemory old new = ReadsWell old new × WritesWell old new

-- a session in which these turns were made took these bytes, which give these items, wrote those bytes, and
-- ended so
pub record Serves
    (gate : Gate) (ended : Ended) (history : List Entry) (old new : Wire)
    (taken : List ℕ) (items : List Item) (written : List ℕ)
    : Type 0 where
  pub took : Took old.input.left taken new.input.left
  pub script : IsScript gate taken items
  pub gained : Gained old.out.held written new.out.held
  pub within : length taken ≤ most_taken
  pub prompt : IsPrompt gate new.input taken history written
  pub faults : HasFaults ended old new
  pub outcome : HasEnded gate ended new taken items history written

-- there was such a session, in which these turns were made
abbrev pub IsSession : Gate → Ended → List Entry → Wire → Wire → Type 0
IsSession gate ended history old new =
    (taken : List ℕ) × (items : List Item) × (written : List ℕ)
    × Serves gate ended history old new taken items written
