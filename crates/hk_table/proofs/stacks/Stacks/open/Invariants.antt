use Rattle.std.proofs.Common.{◌≡◌, take}
use Rattle.hk_table.specs.Stacked.{base_stacks}
use Rattle.hk_table.proofs.stacks.Stacks.open.Given as goal

abbrev pub invariant-loop-n : goal.invariant-loop-n
invariant-loop-n l = l.all.items ≡ base_stacks 0 (take l.n l.tasks)
