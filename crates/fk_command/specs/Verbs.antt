-- What a line asks for, as the code tells it.
use Rattle.fk_model.specs.Script.{Command, end, hello, push, batch, fetch, ack, fail, beat, signal, info, flush, mutate, unknown}
use Rattle.fk_command.specs.declared.verb.Verb.{Verb}
use Rattle.fk_command.specs.declared.verb.Verb.TheVariants.{End, Hello, Push, Batch, Fetch, Ack, Fail, Beat, Signal, Info, Flush, Mutate, Unknown}

-- the command of a verb
abbrev pub command : Verb → Command
command End = end
command Hello = hello
command Push = push
command Batch = batch
command Fetch = fetch
command Ack = ack
command Fail = fail
command Beat = beat
command Signal = signal
command Info = info
command Flush = flush
command Mutate = mutate
command Unknown = unknown
