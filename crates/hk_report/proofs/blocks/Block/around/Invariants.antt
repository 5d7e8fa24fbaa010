-- The spans so far are within.
use Rattle.std.specs.Prelude.{take}
use Rattle.hk_report.specs.Blocks.{IsAround}
use Rattle.hk_report.proofs.blocks.Block.around.Given as goal

abbrev pub invariant-loop-span : goal.invariant-loop-span
invariant-loop-span l = IsAround l.block (take l.span-index l.spans)
