use Rattle.std.proofs.Common.{◌≡◌, ◌<◌, length, sym, ap, ◌∙◌, arith}
use Rattle.fk_json.specs.Step.{gives}
use Rattle.fk_json.specs.declared.standing.Led.TheVariants as led
use Rattle.fk_json.proofs.ReadTo.{ReadsOn, found_named, found_read, read_deep, read_early, read_ended, read_past, read_stops}
use Rattle.fk_json.proofs.Staying.{read_none, reads_run}
use Rattle.fk_json.proofs.cursor.next_found.Goals.{After-pass_run-at}
use Rattle.fk_json.proofs.cursor.next_found.Goals as goal

-- the bytes up to the end of the run were read
ran : (c : After-pass_run-at)
    → ReadsOn c.args.outer c.args.text.now c.args.cursor c.pass_run-at.result c.pass_run-at.new.standing
ran c =
    reads_run c.args.outer c.args.text.now c.args.cursor c.tokens.at c.pass_run-at.result c.tokens.standing
    c.pass_run-at.new.standing c.pass_run-at.new.standing.region c.tokens.invariant.so_far
    c.pass_run-at.ensures.run.passes c.pass_run-at.ensures.kept

-- a byte is left behind the run
left : (c : After-pass_run-at) → ¬ (c.pass_run-at.result ≡ length c.args.text.now)
    → c.pass_run-at.result < length c.args.text.now
left c more = omega (arith, c.pass_run-at.ensures.run.passes.within, more)

pub tokens-init : goal.tokens-init
tokens-init c = record {
  within = c.requires;
  so_far = read_none c.args.outer c.args.text.now c.args.cursor;
}

pub tokens-preserved : goal.tokens-preserved
tokens-preserved c =
    let before = (goal.at.tokens-preserved c).After-pass_run-at in
    let s = c.in-On-None in
    let next = c.read.new.standing in
    let inside = left before c.if-at-text.false in
    let is = ap (λ o. gives (led.On o) next) (sym s.field-0-is) ∙ ap (λ l. gives l next) (sym s.is) ∙ c.read.ensures in
    record {
      within = omega (arith, inside);
      so_far =
          read_past c.args.outer c.args.text.now c.args.cursor c.pass_run-at.result c.pass_run-at.new.standing next inside
          (ran before) is;
    }

pub returns-in-On-Some-clause-ok : goal.returns-in-On-Some-clause-ok
returns-in-On-Some-clause-ok c = λ found read.
    let before = (goal.at.returns-in-On-Some-clause-ok c).After-pass_run-at in
    let s = c.in-On-Some in
    let next = c.read.new.standing in
    let inside = left before c.if-at-text.false in
    let there = (ran before).reads found read in
    let is = ap (λ o. gives (led.On o) next) (sym s.field-0-is) ∙ ap (λ l. gives l next) (sym s.is) ∙ c.read.ensures in (
      found_named c.args.outer c.args.text.now c.pass_run-at.result found c.pass_run-at.new.standing next s.found inside
          there is,
      λ items adds. found_read c.args.outer c.args.text.now c.pass_run-at.result found items c.pass_run-at.new.standing next
          s.found c.behind.result inside there is adds c.behind.ensures.at c.behind.ensures.standing,
    )

pub returns-in-TooDeep-clause-fault : goal.returns-in-TooDeep-clause-fault
returns-in-TooDeep-clause-fault c = λ found read.
    let before = (goal.at.returns-in-TooDeep-clause-fault c).After-pass_run-at in
    read_deep c.args.outer c.args.text.now c.pass_run-at.result found c.pass_run-at.new.standing
    (left before c.if-at-text.false) ((ran before).reads found read)
    (ap (λ l. gives l c.read.new.standing) (sym c.in-TooDeep.is) ∙ c.read.ensures)

pub returns-in-Stops-clause-fault : goal.returns-in-Stops-clause-fault
returns-in-Stops-clause-fault c = λ found read.
    let before = (goal.at.returns-in-Stops-clause-fault c).After-pass_run-at in
    read_stops c.args.outer c.args.text.now c.pass_run-at.result found c.pass_run-at.new.standing
    (left before c.if-at-text.false) ((ran before).reads found read)
    (ap (λ l. gives l c.read.new.standing) (sym c.in-Stops.is) ∙ c.read.ensures)

pub returns-then-is_whole-clause-ok : goal.returns-then-is_whole-clause-ok
returns-then-is_whole-clause-ok c = λ found read all.
    let before = (goal.at.returns-then-is_whole-clause-ok c).After-pass_run-at in
    read_ended c.args.outer c.args.text.now c.pass_run-at.result found all c.pass_run-at.new.standing
    (omega (arith, c.if-at-text.true)) ((ran before).reads found read) (sym c.is_whole.ensures ∙ c.if-is_whole.true)

pub returns-else-is_whole-clause-fault : goal.returns-else-is_whole-clause-fault
returns-else-is_whole-clause-fault c = λ found read.
    let before = (goal.at.returns-else-is_whole-clause-fault c).After-pass_run-at in
    read_early c.args.outer c.args.text.now c.pass_run-at.result found c.pass_run-at.new.standing
    (omega (arith, c.if-at-text.true)) ((ran before).reads found read) (sym c.is_whole.ensures ∙ c.if-is_whole.false)
