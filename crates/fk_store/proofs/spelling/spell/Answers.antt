use Rattle.std.proofs.Common.{◌∙◌}
use Rattle.fk_store.proofs.Framed.{is_framed}
use Rattle.fk_store.proofs.spelling.spell.Goals as goal

pub returns-clause-ok : goal.returns-clause-ok
returns-clause-ok c =
    c.end_piece.ensures.items
    ∙ is_framed _ _ _ _ _ c.moves_length.ensures c.in_ok-begin_piece.ensures.bound c.in_ok-begin_piece.ensures.ok
    c.in_ok-write_moves.ensures.ok
