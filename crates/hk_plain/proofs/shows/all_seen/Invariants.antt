use Rattle.std.proofs.Common.{◌≡◌, ◌++◌, map}
use Rattle.hk_model.specs.Snapshots.{seen}
use Rattle.hk_plain.proofs.shows.all_seen.Given as goal

-- those so far and those that are left
abbrev pub invariant-loop-name : goal.invariant-loop-name
invariant-loop-name l = l.all.items ++ map seen l.name-iterator ≡ map seen l.objects.entries
