use Rattle.std.proofs.Common.{◌≡◌, ◌∙◌, sym, ap, refl}
use Rattle.serde_json.specs.Data.{object}
use Rattle.serde_json.specs.Events.{members_len}
use Rattle.serde_json.specs.View.{view}
use Rattle.serde_json.specs.declared.value.Value as Value
use Rattle.serde_json.proofs.Views.{members_len-members_view, view-Object}
use Rattle.fk_model.specs.Bringing.{brought_up}
use Rattle.fk_model.specs.Info.{sizes}
use Rattle.fk_plan.proofs.telling.told_of.Goals as goal

pub returns : goal.returns
returns c = λ word up made.
    let same = c.in_ok-queues.ensures word in
    let total : c.len.result ≡ members_len (sizes (brought_up c.args.tables.now.kept c.args.moment word).rows) =
    c.len.ensures.len ∙ sym (members_len-members_view c.in_ok-queues.queues.entries) ∙ ap members_len same in
    let queues : view (Value.Object c.in_ok-queues.queues)
    ≡ object (sizes (brought_up c.args.tables.now.kept c.args.moment word).rows) =
    view-Object c.in_ok-queues.queues ∙ ap object same in
    rw (c.in_ok-put_count-8.ensures, c.in_ok-put_value.ensures, c.in_ok-put_count-7.ensures, c.in_ok-put_count-6.ensures, c.in_ok-put_count-5.ensures, c.in_ok-put_count-4.ensures, c.in_ok-put_count-3.ensures, c.in_ok-put_count-2.ensures, c.in_ok-put_count.ensures, c.new-told.ensures.empty)
    (rw (c.in_ok-dead.ensures word made, c.in_ok-retries.ensures word made, c.in_ok-scheduled.ensures word made, c.waiting_up-enqueued.ensures word, c.working_up-working.ensures word, up.processed, up.failures, total, queues) refl)
