use Rattle.hk_reclaim.proofs.Keeping.{part_is}
use Rattle.hk_reclaim.proofs.counts.Counts.settle.Goals as goal

pub returns-clause-left : goal.returns-clause-left
returns-clause-left c = part_is _ _ c.read_apart.ensures c.settle.ensures.part
