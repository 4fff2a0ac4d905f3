use Rattle.std.proofs.Common.{◌++◌, ◌∷◌, [], subst}
use Rattle.std.specs.Int.{w64}
use Rattle.std.proofs.lemmas.Int.{to_z-of_z}
use Rattle.fk_moves.specs.Spelling.{flag_bytes, signed_bytes, word_bytes}
use Rattle.fk_moves.specs.Writing.{Put}
use Rattle.fk_moves.proofs.putting.put_terms.Goals as goal

pub returns : goal.returns
unfolding signed_bytes word_bytes
returns c =
    subst (λ z. Put (signed_bytes z ++ word_bytes c.args.reserve_for ++ (0 ∷ []) ++ flag_bytes c.args.has_created)
    c.args.out.now c.put_bytes.new.out)
    (to_z-of_z w64 c.args.retry c.ranges.retry)
    (rw (c.terms.ensures, c.to_be_bytes.ensures, c.to_be_bytes-2.ensures, ← c.flag_byte-flag.ensures) at c.put_bytes.ensures)
