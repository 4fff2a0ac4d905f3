use Rattle.std.proofs.Common.{◌≡◌, [], true, subst}
use Rattle.clap.specs.Walk.{texts}
use Rattle.clap.specs.Simple.{App}
use Rattle.clap.specs.Faults.{fault_of, is_simple_and_free}
use Rattle.clap.proofs.BuiltLemmas.{on_ok_always}
use Rattle.fk_server.proofs.Options.{simple_and_free}
use Rattle.fk_server.proofs.Parsed.{counts_are}
use Rattle.fk_server.proofs.words.read_options.Goals as goal

pub settings_in-requires : goal.settings_in-requires
settings_in-requires c =
    counts_are c.in_ok-command.command c.in-Ok.found c.in_ok-command.ensures c.in-Ok.ensures.parsed

pub returns-in-Ok-clause-valid : goal.returns-in-Ok-clause-valid
returns-in-Ok-clause-valid c = on_ok_always c.settings_in.result
    (subst (λ (app : App). is_simple_and_free app ≡ true → fault_of app (texts c.args.words.now) ≡ [])
    c.in_ok-command.ensures c.in-Ok.ensures.kinds simple_and_free)
