-- How a session ends within a step: a write failed, or memory ran out.
use Rattle.std.proofs.Common.{◌≡◌, ℕ, ◌≤◌, List, [], ◌++◌, length, Option, None, refl, inl, inr, arith}
use Rattle.std.specs.Prelude.{option_to_list}
use Rattle.std.proofs.lemmas.List.{append-nil}
use Rattle.fk_io.specs.declared.fault.Ended.TheVariants.{WriteFault, NoMemory}
use Rattle.fk_io.specs.Content.{Supply, Written, Took, Gained}
use Rattle.fk_io.specs.Faults.{Rose}
use Rattle.fk_io.proofs.Content.{took_nothing}
use Rattle.fk_model.specs.declared.entry.Entry.{Entry}
use Rattle.fk_model.specs.declared.gate.Gate.{Gate}
use Rattle.fk_model.specs.declared.item.Item.{Item}
use Rattle.fk_model.specs.Handshake.{greeting}
use Rattle.fk_model.specs.Out.{asks_of, out, output}
use Rattle.fk_model.specs.Script.{IsScript}
use Rattle.fk_talk.specs.declared.standing.Standing.TheVariants.{Nobody}
use Rattle.fk_talk.proofs.Advance.{stays}
use Rattle.fk_talk.proofs.Due.{script_begun}
use Rattle.fk_conn.specs.declared.session.TheConstants.{TAKEN_MAX}
use Rattle.fk_conn.specs.Turning.{answers_in, asks_in}
use Rattle.fk_conn.specs.Session.{Wire, wire, Begins, IsAnsweredSoFar, IsPartOf, IsPrompt, IsSession, IsWithinPiece, ReadsWell, WritesWell, WantedMemory, behind_greeting}
use Rattle.fk_conn.specs.Answering.{BreaksOff}
use Rattle.fk_conn.proofs.Giving.{begins_due}
use Rattle.fk_conn.proofs.Writing.{part_begins, part_of_more}

-- a session that took these bytes stopped: behind the replies to the first items, and perhaps within that
-- to one more
pub record IsCut
    (gate : Gate) (first new : Wire) (history : List Entry) (taken : List ℕ) (front : List Item)
    (begun : Option Item) (behind : List Item) (part : List ℕ)
    : Type 0 where
  pub took : Took first.input.left taken new.input.left
  pub within : length taken ≤ TAKEN_MAX
  pub script : IsScript gate taken ((front ++ option_to_list begun) ++ behind)
  pub asks : asks_in history ≡ asks_of (front ++ option_to_list begun)
  pub whole : Begins (out front (answers_in history)) (behind_greeting gate part)
  pub no_more : Begins part (output gate (front ++ option_to_list begun) (answers_in history))
  pub gained : Gained first.out.held part new.out.held
  pub reads : ReadsWell first new

so_far : (gate : Gate) (first new : Wire) (history : List Entry) (taken : List ℕ) (front : List Item)
    (begun : Option Item) (behind : List Item) (part : List ℕ)
    → IsCut gate first new history taken front begun behind part
    → IsAnsweredSoFar gate ((front ++ option_to_list begun) ++ behind) history part
so_far gate first new history taken front begun behind part cut = record {
  answered = front;
  begun = begun;
  others = behind;
  are_all = refl;
  asks = cut.asks;
  whole = cut.whole;
  no_more = cut.no_more;
}

-- a write failed
pub ends_broken : (gate : Gate) (first new : Wire) (history : List Entry) (taken : List ℕ) (front : List Item)
    (begun : Option Item) (behind : List Item) (part : List ℕ)
    → IsCut gate first new history taken front begun behind part
    → IsPrompt gate new.input taken history part
    → IsPartOf part (output gate ((front ++ option_to_list begun) ++ behind) (answers_in history))
    → Rose first.out.faults new.out.faults → IsSession gate WriteFault history first new
ends_broken gate first new history taken front begun behind part cut prompt is_part rose = (
  taken,
  (front ++ option_to_list begun) ++ behind,
  part,
  record {
    took = cut.took;
    script = cut.script;
    gained = cut.gained;
    within = cut.within;
    prompt = prompt;
    faults = (cut.reads, rose);
    outcome = (is_part, so_far gate first new history taken front begun behind part cut);
  },
)

-- memory ran out
pub ends_starved : (gate : Gate) (first new : Wire) (history : List Entry) (taken : List ℕ) (front : List Item)
    (begun : Option Item) (behind : List Item) (part : List ℕ)
    → IsCut gate first new history taken front begun behind part
    → IsWithinPiece gate new.input taken history part
    → WantedMemory gate taken ((front ++ option_to_list begun) ++ behind) history part
    → WritesWell first new → IsSession gate NoMemory history first new
ends_starved gate first new history taken front begun behind part cut late wanted writes = (
  taken,
  (front ++ option_to_list begun) ++ behind,
  part,
  record {
    took = cut.took;
    script = cut.script;
    gained = cut.gained;
    within = cut.within;
    prompt = inr late.0;
    faults = (cut.reads, writes);
    outcome = (
      begins_due gate (front ++ option_to_list begun) behind history part cut.no_more,
      so_far gate first new history taken front begun behind part cut,
      late,
      wanted,
    );
  },
)

-- nothing was taken, and the greeting wasn't written whole
pub not_begun : (gate : Gate) (input : Supply) (old new : Written) → BreaksOff old new (greeting gate)
    → IsSession gate WriteFault [] (wire input old) (wire input new)
not_begun gate input old new breaks =
    let (behind, script) = script_begun gate [] [] Nobody [] (stays gate Nobody []) in
    let part = breaks.part in
    let is_part = breaks.broke.is_part in
    ends_broken gate (wire input old) (wire input new) [] [] [] None behind part (record {
      took = took_nothing input.left;
      within = omega arith;
      script = script;
      asks = refl;
      whole = (behind_greeting gate part, refl);
      no_more = rw append-nil (part_begins part (greeting gate) is_part);
      gained = breaks.broke.gained;
      reads = refl;
    }) (inl refl) (part_of_more part (greeting gate) (out behind []) is_part) breaks.broke.rose
