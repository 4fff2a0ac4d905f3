use Rattle.std.proofs.Common.{◌++◌, subst}
use Rattle.fk_moves.specs.Spelling.{flag_bytes, option_bytes, signed_bytes, text_bytes, word_bytes}
use Rattle.fk_moves.specs.Writing.{Put}
use Rattle.fk_moves.proofs.Filled.{behind_all, put_then}
use Rattle.fk_moves.proofs.writing.put_job.Goals as goal

pub returns : goal.returns
returns c =
    let job = c.args.job.now in
    let names = put_then (put_then c.put_text.ensures c.put_text-2.ensures) c.put_text-3.ensures in
    let numbers = subst (λ l. Put l c.args.out.now c.put_numbers.new.out)
    (behind_all (text_bytes job.jid ++ text_bytes job.jobtype ++ text_bytes job.queue) (signed_bytes job.retry)
    (word_bytes job.reserve_for) (option_bytes word_bytes job.at) (flag_bytes job.has_created))
    (put_then names c.put_numbers.ensures) in
    put_then numbers c.put_text-4.ensures
