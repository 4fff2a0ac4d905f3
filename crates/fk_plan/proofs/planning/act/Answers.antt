use Rattle.std.proofs.lemmas.Result.{IfOk-weaker}
use Rattle.fk_model.specs.Bringing.{brought_up}
use Rattle.fk_model.specs.State.{with_workers}
use Rattle.fk_model.specs.Turns.{up_to_date}
use Rattle.fk_plan.proofs.Planned.{all_left, attended, informed, few_pairs, few_up, numbers_up}
use Rattle.fk_plan.proofs.RowsUp.{up_tells}
use Rattle.fk_plan.proofs.planning.act.Goals as goal

pub fetch_unless_held-requires-clause-next : goal.fetch_unless_held-requires-clause-next
fetch_unless_held-requires-clause-next c =
    few_pairs c.args.tables.now.kept c.args.moment c.args.word c.args.up.now c.requires.kept c.requires.up
    c.requires.next

pub tell-requires-clause-few : goal.tell-requires-clause-few
tell-requires-clause-few c = few_up c.args.tables.now.kept c.args.moment c.args.word c.requires.kept c.requires.next

pub returns-in-Info-clause-ok : goal.returns-in-Info-clause-ok
returns-in-Info-clause-ok c =
    let up = up_to_date (with_workers c.args.tables.now.kept c.args.workers.now.workers) c.args.moment c.args.word in
    rw (← c.replace.ensures.value, c.in-Info.is)
    (IfOk-weaker c.tell.result _ _
    (λ reply is. informed c.args.tables.now.kept up c.args.moment c.args.word reply c.args.moves.now.items
    c.args.up.now.numbers is (numbers_up c.args.tables.now.kept c.args.moment c.args.word c.args.up.now c.requires.up))
    (c.tell.ensures c.args.word c.requires.up c.requires.made))

-- what says nothing of jobs
pub returns-in_default-clause-ok : goal.returns-in_default-clause-ok
returns-in_default-clause-ok c =
    let left = all_left c.args.ask.now c.replace.result c.replace.ensures.value (record {
      push = c.in_default.not-Push;
      batch = c.in_default.not-PushBatch;
      fetch = c.in_default.not-Fetch;
      ack = c.in_default.not-Ack;
      fail = c.in_default.not-Fail;
      info = c.in_default.not-Info;
      flush = c.in_default.not-Flush;
      mutate = c.in_default.not-Mutate;
    }) in
    let up = brought_up c.args.tables.now.kept c.args.moment c.args.word in
    let said = rw c.replace.ensures.value at (c.attend.ensures up c.args.word) in
    attended _ _ c.args.ask.now c.args.moment c.args.word _ _ _ left said
    (numbers_up c.args.tables.now.kept c.args.moment c.args.word c.args.up.now c.requires.up)

pub mutate-requires-clause-moments : goal.mutate-requires-clause-moments
mutate-requires-clause-moments c =
    rw c.requires.made
    (up_tells c.args.tables.now.kept c.args.moment c.args.word c.requires.kept c.requires.moment)
