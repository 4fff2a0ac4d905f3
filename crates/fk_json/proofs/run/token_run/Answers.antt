use Rattle.std.proofs.Common.{refl}
use Rattle.fk_json.proofs.Passing.{runs_part}
use Rattle.fk_json.specs.Tokens.{letters_step, number_step, string_step, token_step}
use Rattle.fk_json.specs.declared.token.Token.TheVariants as token
use Rattle.fk_json.proofs.run.token_run.Goals as goal

pub returns-in-Number : goal.returns-in-Number
returns-in-Number c =
    runs_part token.Number number_step token_step _ _ _ _ _ _ c.in-Number.is (λ mode byte. refl) c.number_run-run.ensures

pub returns-in-Quoted : goal.returns-in-Quoted
returns-in-Quoted c =
    runs_part token.Quoted string_step token_step _ _ _ _ _ _ c.in-Quoted.is (λ mode byte. refl) c.string_run-run.ensures

pub returns-in-Letters : goal.returns-in-Letters
returns-in-Letters c =
    runs_part token.Letters letters_step token_step _ _ _ _ _ _ c.in-Letters.is (λ mode byte. refl) c.letters_run-run.ensures
