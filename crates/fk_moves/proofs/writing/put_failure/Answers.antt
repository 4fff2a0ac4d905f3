use Rattle.fk_moves.proofs.Filled.{put_then}
use Rattle.fk_moves.proofs.writing.put_failure.Goals as goal

pub returns : goal.returns
returns c =
    put_then (put_then (put_then (put_then (put_then c.put_word.ensures c.put_word-2.ensures) c.put_option.ensures)
    c.put_text.ensures) c.put_text-2.ensures) c.put_texts.ensures
