-- The runs so far are within.
use Rattle.std.specs.Prelude.{take}
use Rattle.std.specs.List.{AllByRecursion}
use Rattle.hk_report.specs.Reachable.{moment_at}
use Rattle.hk_report.specs.HeldBlocks.{IsWithin}
use Rattle.hk_report.proofs.held_blocks.HeldBlock.around.Given as goal

abbrev pub invariant-loop-stretch : goal.invariant-loop-stretch
invariant-loop-stretch l = AllByRecursion (IsWithin (moment_at l.lasts) l.block) (take l.stretch-index l.held)
