use Rattle.std.proofs.Common.{ap, slice_index_or}
use Rattle.fk_talk.proofs.Differences.{alike_on, all_alike, same}
use Rattle.fk_talk.proofs.password.differences.Goals as goal

pub bytes-preserved : goal.bytes-preserved
bytes-preserved c = record {
  alike = alike_on c.args.one.now c.args.other.now c.bytes.at c.bytes.differs c.bytes.invariant.alike;
  same = λ are. same _ _ _ (c.bytes.invariant.same are) (ap (λ bytes. slice_index_or bytes c.bytes.at 0) are);
}

pub returns : goal.returns
returns c = (
  all_alike c.args.one.now c.args.other.now c.bytes.at c.bytes.differs c.requires c.bytes-test.false c.bytes.invariant.alike,
  c.bytes.invariant.same,
)
