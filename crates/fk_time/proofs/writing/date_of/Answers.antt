use Rattle.std.proofs.Common.{◌≡◌, ◌/◌, pos}
use Rattle.jiff_core.specs.Date.{epoch_day}
use Rattle.fk_time.specs.Moments.{day_length}
use Rattle.fk_time.proofs.Days.{IsDateOf, date_of, shifted}
use Rattle.fk_time.proofs.writing.date_of.Goals as goal

pub returns : goal.returns
returns c =
    let date = c.from_days_since_min.result in
    let epoch : epoch_day date ≡ pos (c.args.moment / day_length) =
    shifted (epoch_day date) (c.args.moment / day_length) c.from_days_since_min.ensures in
    let parts : IsDateOf c.args.moment date = date_of c.args.moment date epoch in
    record { year = parts.year; month = parts.month; day = parts.day; epoch = epoch }
