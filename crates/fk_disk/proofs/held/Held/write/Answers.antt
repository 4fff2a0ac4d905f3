-- What holds of a file in memory holds after a write.
use Rattle.std.proofs.Common.{subst}
use Rattle.fk_disk.specs.Steps.{AreBytes}
use Rattle.fk_disk.proofs.Written.{write_holds}
use Rattle.fk_disk.proofs.held.Held.write.Goals as goal

pub invariant_of-self : goal.invariant_of-self
invariant_of-self c =
    let bytes : AreBytes c.overwrite-outcome.new.bytes.items =
    subst AreBytes c.deref.ensures.value c.are_bytes.ensures in
    record {
      held = rw c.write.ensures (write_holds _ _ c.args.at c.args.count _ c.args.self.now.held bytes
          c.overwrite-outcome.ensures.over);
    }
