use Rattle.std.proofs.Common.{◌≡◌, ap, length, arith}
use Rattle.fk_core.specs.Held.{Held}
use Rattle.fk_core.proofs.Whereabouts.{each_in_one}
use Rattle.fk_core.proofs.tables.Tables.waiting.Goals as goal

pub overflow_sub-result : goal.overflow_sub-result
overflow_sub-result c =
    let all = each_in_one c.args.self.now.kept.rows in
    let rows = ap (λ (held : Held). length held.kept.rows) c.self.view_is in
    omega (arith, all, rows, c.count.ensures.count, c.size.ensures)

pub overflow_sub-result-2 : goal.overflow_sub-result-2
overflow_sub-result-2 c =
    let all = each_in_one c.args.self.now.kept.rows in
    let rows = ap (λ (held : Held). length held.kept.rows) c.self.view_is in
    omega (arith, all, rows, c.count.ensures.count, c.size.ensures, c.size-2.ensures)

pub overflow_sub-result-3 : goal.overflow_sub-result-3
overflow_sub-result-3 c =
    let all = each_in_one c.args.self.now.kept.rows in
    let rows = ap (λ (held : Held). length held.kept.rows) c.self.view_is in
    omega (arith, all, rows, c.count.ensures.count, c.size.ensures, c.size-2.ensures, c.size-3.ensures)

pub overflow_sub-result-4 : goal.overflow_sub-result-4
overflow_sub-result-4 c =
    let all = each_in_one c.args.self.now.kept.rows in
    let rows = ap (λ (held : Held). length held.kept.rows) c.self.view_is in
    omega (arith, all, rows, c.count.ensures.count, c.size.ensures, c.size-2.ensures, c.size-3.ensures, c.working.ensures)
