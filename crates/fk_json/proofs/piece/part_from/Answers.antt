use Rattle.std.proofs.Common.{refl}
use Rattle.fk_json.specs.String.{byte}
use Rattle.fk_json.proofs.piece.part_from.Goals as goal

pub returns-else-byte-eq34 : goal.returns-else-byte-eq34
returns-else-byte-eq34 c = record {
  part = byte c.args.byte;
  fits = (c.if-byte-lt32.false, c.if-byte-eq34.false, c.if-byte-eq92.false);
  whole = refl;
  brings = refl;
}
