-- What becomes of a job that failed, by this server's schedule: it is forgotten, or tried again at a later
-- moment, or dead, as it is once its tries are used up.
use Rattle.std.specs.Prelude.{ℕ, zero, ◌+◌, ◌*◌, ◌%◌, ◌^◌, min, nat_lt, if◌then◌else◌, ℤ, pos, negsuc}
use Rattle.fk_time.specs.Moments.{day_length}
use Rattle.fk_model.specs.declared.fate.Fate.{Fate}
use Rattle.fk_model.specs.declared.fate.Fate.TheVariants.{Drop, Retry, Dead}
use Rattle.fk_model.specs.Limits.{later_by, second_length}

-- how long a dead job is kept, in milliseconds: 180 days
abbrev pub dead_for : ℕ
dead_for = 180 * day_length

-- the most failures that count for a delay
abbrev pub most_counted : ℕ
most_counted = 1000

-- what is left to chance, from 0 to 29: for each failure so far a delay has so many seconds more, so that jobs
-- that failed together don't all come back together
abbrev pub chance : ℕ → ℕ → ℕ
chance word ticket = (word + ticket) % 30

-- The seconds until a job is tried again that failed so many times before: the fourth power of their number,
-- 15, and for this failure and each before it as many more as chance says.
abbrev pub delay : ℕ → ℕ → ℕ
delay count chance = count ^ 4 + 15 + chance * (count + 1)

-- when a job is tried again
abbrev pub next_try : ℕ → ℕ → ℕ → ℕ → ℕ
next_try count ticket word moment =
    later_by (second_length * delay (min count most_counted) (chance word ticket)) moment

-- when a dead job is forgotten
abbrev pub end_of_dead : ℕ → ℕ
end_of_dead moment = later_by dead_for moment

-- What becomes of a job that failed at a moment, and so many times before, by how often it is to be tried
-- again: with 0 it is forgotten, and with -1 it is dead at once.
abbrev pub fate : ℤ → ℕ → ℕ → ℕ → ℕ → Fate
fate (pos zero) count ticket word moment = Drop
fate (pos retry) count ticket word moment =
    if nat_lt count retry then Retry (next_try count ticket word moment) else Dead (end_of_dead moment)
fate (negsuc below) count ticket word moment = Dead (end_of_dead moment)
