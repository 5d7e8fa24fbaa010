use Rattle.std.proofs.Common.{◌≡◌, map}
use Rattle.hk_model.specs.Snapshots.{seen}
use Rattle.hk_table.proofs.shown.all_seen.Given as goal

abbrev pub invariant-loop-name : goal.invariant-loop-name
invariant-loop-name l = l.all.items ≡ map seen l.yielded
