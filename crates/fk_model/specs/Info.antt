-- What an INFO tells: an object of this server's own, written with its names in order of bytes and without a space.
use Rattle.std.specs.Prelude.{ℕ, List, filter, fold, length, map, codes}
use Rattle.serde_json.specs.Data.{Data, Members, no_members, number, object, put, string, unsigned}
use Rattle.serde_json.specs.Events.{members_len}
use Rattle.serde_json.specs.Written.{compact_text}
use Rattle.fk_time.specs.Moments.{moment_text}
use Rattle.fk_model.specs.declared.row.Row.{Row}
use Rattle.fk_model.specs.declared.mutation.Target.TheVariants as target
use Rattle.fk_model.specs.Rows.{row_of}
use Rattle.fk_model.specs.State.{KeptState}
use Rattle.fk_model.specs.Orders.{is_queued, queue, timed, working}

-- ---- sizes

-- the rows that wait in their queues
abbrev pub waiting : List (ℕ × Row) → List (ℕ × Row)
waiting rows = filter (λ filed. is_queued (row_of filed).place) rows

-- the queues in which a row waits, one for each such row
abbrev pub queues_of : List (ℕ × Row) → List (List ℕ)
queues_of rows = map (λ filed. (row_of filed).job.queue) (waiting rows)

-- a number as a value
abbrev pub count : ℕ → Data
count n = number (unsigned n)

-- a member for a queue: under its name the number of rows that wait in it
abbrev pub with_queue : List (ℕ × Row) → Members → List ℕ → Members
with_queue rows members name = put name (count (length (queue rows name))) members

-- a member for each queue in which a row waits
abbrev pub sizes : List (ℕ × Row) → Members
sizes rows = fold (with_queue rows) no_members (queues_of rows)

-- ---- the object

-- what is told of the kept state
abbrev pub told_of : KeptState → Members
told_of kept =
    put (codes "dead") (count (length (timed target.Dead kept.rows)))
    (put (codes "queues") (object (sizes kept.rows))
    (put (codes "retries") (count (length (timed target.Retries kept.rows)))
    (put (codes "scheduled") (count (length (timed target.Scheduled kept.rows)))
    (put (codes "total_enqueued") (count (length (waiting kept.rows)))
    (put (codes "total_failures") (count kept.failures)
    (put (codes "total_processed") (count kept.processed)
    (put (codes "total_queues") (count (members_len (sizes kept.rows)))
    (put (codes "working") (count (length (working kept.rows))) no_members))))))))

-- what an INFO tells of the kept state, and of the moment of its turn
abbrev pub info_text : KeptState → ℕ → List ℕ
info_text kept moment =
    compact_text (object (put (codes "faktory") (object (told_of kept))
    (put (codes "now") (string (moment_text moment)) no_members)))
