use Rattle.std.proofs.Common.{rules, ◌∙◌, refl, ap, arith}
use Rattle.fk_workers.specs.Entries.{workers_of}
use Rattle.fk_workers.proofs.Silence.{sooner, since_insert}
use Rattle.fk_workers.proofs.Changing.{greeted_entry}
use Rattle.fk_workers.proofs.Readied.{ok_then, readied, some_is}
use Rattle.fk_workers.proofs.workers.Workers.greet.Goals as goal

pub invariant_of-self-2 : goal.invariant_of-self-2
invariant_of-self-2 c =
    let done = c.insert.ensures.succeeds (c.self.invariant.room (some_is _ _ c.in-Some.ensures.value)) in
    let inserted = ok_then _ _ done c.insert.ensures.entries in
    record {
      apart = c.insert.ensures.unique;
      room = search rules;
      seen = rw inserted (since_insert _ _ _ _ (omega (arith, c.min-self-inside.ensures))
          (sooner _ _ _ (omega (arith, c.min-self-inside.ensures)) c.self.invariant.seen));
    }

pub returns-clause-workers : goal.returns-clause-workers
returns-clause-workers c =
    let done = c.insert.ensures.succeeds (c.self.invariant.room (some_is _ _ c.in-Some.ensures.value)) in
    let inserted = ok_then _ _ done c.insert.ensures.entries in
    let same = readied _ _ _ c.in-Some.ensures.value (rw (← c.self.view_is) at c.requires) in
    rw (← c.self.view_is, ← same)
    (ap workers_of inserted ∙ greeted_entry _ _ _ _ refl c.self.invariant.apart)
