use Rattle.std.proofs.Common.{rules, ◌∙◌, ap, sym}
use Rattle.indexmap.proofs.CallerLemmas.{filter-RetainsPairs}
use Rattle.fk_workers.specs.Entries.{Entry, workers_of}
use Rattle.fk_model.specs.Workers.{is_fresh}
use Rattle.fk_workers.proofs.Silence.{all_fresh, fresh_workers}
use Rattle.fk_workers.proofs.workers.Workers.forget.Goals as goal

pub returns-then-is_fresh-clause-workers : goal.returns-then-is_fresh-clause-workers
returns-then-is_fresh-clause-workers c =
    rw (← c.self.view_is)
    (sym (all_fresh _ _ _ (sym c.is_fresh.ensures ∙ c.if-is_fresh.true) c.self.invariant.seen))

pub returns-clause-workers : goal.returns-clause-workers
returns-clause-workers c =
    rw (← c.self.view_is)
    (ap workers_of (filter-RetainsPairs _ (λ (entry : Entry). is_fresh c.args.moment entry.1.seen) _ (λ k v b w g call. search rules) _ _ c.retain.ensures.filtered)
    ∙ sym (fresh_workers c.args.moment c.self.inside.held.entries))
