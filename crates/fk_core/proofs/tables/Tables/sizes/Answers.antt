use Rattle.std.proofs.Common.{◌∙◌, ap, List, ℕ}
use Rattle.std.proofs.lemmas.Result.{IfOk-weaker}
use Rattle.fk_lists.specs.Room.{list_at}
use Rattle.fk_core.specs.Sizes.{AreSizesOf}
use Rattle.fk_core.specs.declared.tables.Tables.TheInside.{Inside}
use Rattle.fk_core.proofs.SizesOfQueues.{are_sizes}
use Rattle.fk_core.proofs.tables.Tables.sizes.Goals as goal

pub returns : goal.returns
returns c =
    let same = λ (name : List ℕ). ap (λ (inside : Inside). list_at inside.index.queues.items name) c.self-inside.view_is
    ∙ c.self.invariant.queues name in
    rw (← c.self.view_is)
    (IfOk-weaker c.sizes.result _ (AreSizesOf c.self.inside.rows.items)
    (λ sizes is. rw is (are_sizes c.self.inside.rows.items _ c.sizes.ensures.named same)) c.sizes.ensures.sizes)
