use Rattle.fk_filter.proofs.Whole.{tells_whole}
use Rattle.fk_filter.proofs.globbing.glob.Goals as goal

pub returns : goal.returns
returns c = tells_whole _ c.args.text.now c.is_whole.result c.is_whole.ensures
