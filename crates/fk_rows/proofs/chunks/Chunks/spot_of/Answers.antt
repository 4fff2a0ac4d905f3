use Rattle.fk_rows.proofs.Halving.{rising_in_chunk, place_in_chunk, gap_in_chunk}
use Rattle.fk_rows.proofs.chunks.Chunks.spot_of.Goals as goal

pub place_in-requires : goal.place_in-requires
place_in-requires c = rising_in_chunk c.self.inside.chunks.items c.chunk_of-chunk.result (rw (← c.self.view_is) at c.requires)

pub returns-in-Ok-clause-found : goal.returns-in-Ok-clause-found
returns-in-Ok-clause-found c =
    rw (← c.self.view_is) (place_in_chunk c.self.inside.chunks.items c.args.ticket (record { chunk = c.chunk_of-chunk.result; at = c.in-Ok.at }) c.in-Ok.ensures.found)

pub returns-in-Err-clause-absent : goal.returns-in-Err-clause-absent
returns-in-Err-clause-absent c =
    rw (← c.self.view_is) (gap_in_chunk c.self.inside.chunks.items c.args.ticket (record { chunk = c.chunk_of-chunk.result; at = c.in-Err.at }) c.chunk_of-chunk.ensures c.in-Err.ensures.absent)
