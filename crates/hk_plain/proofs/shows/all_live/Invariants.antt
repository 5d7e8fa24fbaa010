use Rattle.std.proofs.Common.{◌≡◌, ◌++◌, map}
use Rattle.hk_model.specs.Snapshots.{live}
use Rattle.hk_plain.proofs.shows.all_live.Given as goal

-- those so far and those that are left
abbrev pub invariant-loop-inc : goal.invariant-loop-inc
invariant-loop-inc l = l.all.items ++ map live l.inc-iterator ≡ map live l.incarnations.entries
