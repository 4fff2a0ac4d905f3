use Rattle.std.proofs.Common.{rules, ◌∙◌, refl, ap, sym, arith}
use Rattle.fk_workers.specs.Entries.{workers_of}
use Rattle.fk_workers.proofs.Silence.{sooner, since_set}
use Rattle.fk_workers.proofs.Changing.{none_changed, one_changed}
use Rattle.fk_workers.proofs.workers.Workers.beat.Goals as goal

pub returns-in_default-clause-workers : goal.returns-in_default-clause-workers
returns-in_default-clause-workers c =
    rw (← c.self.view_is, ← c.bytes.ensures)
    (ap (λ held. workers_of held.entries) c.get_mut.follows.holds-at-none ∙ sym (none_changed _ _ _ (search rules)))

pub invariant_of-self-2 : goal.invariant_of-self-2
invariant_of-self-2 c =
    let put = c.get_mut.follows.holds _ in
    record {
      apart = put.4;
      room = rw put.6 c.self.invariant.room;
      seen = rw put.0 (since_set _ _ _ _ (omega (arith, c.min-self-inside.ensures))
          (sooner _ _ _ (omega (arith, c.min-self-inside.ensures)) c.self.invariant.seen));
    }

pub returns-clause-workers : goal.returns-clause-workers
returns-clause-workers c =
    rw (← c.self.view_is, ← c.bytes.ensures)
    (ap workers_of (c.get_mut.follows.holds _).0
    ∙ one_changed _ _ _ _ _ c.self.invariant.apart (sym c.in-Some.ensures.value) (λ name. refl))
