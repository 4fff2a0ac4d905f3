-- The words of each refusal but those of a job's fault.
use Rattle.std.specs.Prelude.{ℕ, List, codes}
use Rattle.fk_command.specs.declared.refusal.Refusal.{Refusal}
use Rattle.fk_command.specs.declared.refusal.Refusal.TheVariants.{BadJson, TooDeep, NoJid, NoWid, BadState, BadCmd, BadTarget, BadFilter, SaidHello, UnknownCommand}

abbrev pub words : Refusal → List ℕ
words BadJson = codes "Bad JSON"
words TooDeep = codes "JSON too deep"
words NoJid = codes "No jid"
words NoWid = codes "No wid"
words BadState = codes "Bad state"
words BadCmd = codes "Bad cmd"
words BadTarget = codes "Bad target"
words BadFilter = codes "Bad filter"
words SaidHello = codes "Already said HELLO"
words UnknownCommand = codes "Unknown command"
