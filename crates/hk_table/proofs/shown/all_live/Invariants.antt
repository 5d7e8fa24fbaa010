use Rattle.std.proofs.Common.{◌≡◌, map}
use Rattle.hk_model.specs.Snapshots.{live}
use Rattle.hk_table.proofs.shown.all_live.Given as goal

abbrev pub invariant-loop-inc : goal.invariant-loop-inc
invariant-loop-inc l = l.all.items ≡ map live l.yielded
