-- Something is due to each list of lines, from wherever a talk has come: so what was given of a stream so far
-- begins its script, in whatever way the stream goes on.
use Rattle.std.proofs.Common.{ℕ, List, [], ◌++◌, None, Some, refl}
use Rattle.fk_frame.specs.declared.line_reader.Line.{Line}
use Rattle.fk_frame.specs.Lines.{lines_of}
use Rattle.fk_model.specs.declared.gate.Gate.{Gate}
use Rattle.fk_model.specs.declared.item.Item.{Item}
use Rattle.fk_model.specs.Script.{IsScript, talk_from}
use Rattle.fk_model.proofs.Payload.{laws}
use Rattle.fk_model.proofs.Total.{script_total}
use Rattle.fk_talk.specs.declared.standing.Standing.{Standing}
use Rattle.fk_talk.specs.declared.standing.Standing.TheVariants.{Nobody, Somebody, Over}
use Rattle.fk_talk.specs.Advance.{Advances, AreDueFrom}
use Rattle.fk_talk.proofs.Advance.{begins_script, fed}

pub due_total : (gate : Gate) (standing : Standing) (lines : List Line)
    → (items : List Item) × AreDueFrom gate standing lines items
due_total gate Nobody lines = script_total laws gate None (talk_from gate None lines)
due_total gate (Somebody wid) lines = script_total laws gate (Some wid) (talk_from gate (Some wid) lines)
due_total gate Over lines = ([], refl)

-- what was given of the bytes that were taken begins their script
pub script_begun : (gate : Gate) (taken : List ℕ) (items : List Item) (standing : Standing) (rest : List ℕ)
    → Advances gate Nobody taken items standing rest → (others : List Item) × IsScript gate taken (items ++ others)
script_begun gate taken items standing rest all =
    let (others, are) = due_total gate standing (lines_of rest) in
    (others, begins_script gate taken items others standing rest all are)

-- and that of any stream that they begin
pub script_begun_by : (gate : Gate) (taken : List ℕ) (items : List Item) (standing : Standing) (rest more : List ℕ)
    → Advances gate Nobody taken items standing rest
    → (others : List Item) × IsScript gate (taken ++ more) (items ++ others)
script_begun_by gate taken items standing rest more all =
    script_begun gate (taken ++ more) items standing (rest ++ more) (fed more all)
