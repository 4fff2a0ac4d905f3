use Rattle.fk_time.proofs.Written.{day_reads}
use Rattle.fk_time.proofs.writing.write_moment.Goals as goal

pub returns-clause-reads : goal.returns-clause-reads
returns-clause-reads c =
    let day = c.day_of.result in
    let is = c.day_of.ensures in
    day_reads c.args.moment day.year day.month day.day c.text_of.result c.requires
    (record { year_is = is.year; month_is = is.month; day_is = is.day }) is.valid is.epoch
    c.text_of.ensures.text
