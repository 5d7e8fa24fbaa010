use Rattle.hk_report.specs.Holders.{numbered}
use Rattle.hk_report.proofs.blocks.all_blocks.Goals as goal

pub blocks_of-requires : goal.blocks_of-requires
blocks_of-requires c = rw (c.ends_at.ensures, c.spans_at-spans.ensures) (c.requires (numbered c.loop-index.index))
