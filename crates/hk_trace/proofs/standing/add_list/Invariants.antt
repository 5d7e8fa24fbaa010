use Rattle.std.proofs.Common.{◌≡◌, ◌++◌}
use Rattle.std.specs.Prelude.{drop}
use Rattle.hk_trace.specs.Writings.{held_list}
use Rattle.hk_trace.proofs.standing.add_list.Given as goal

abbrev pub invariant-loop-index : goal.invariant-loop-index
invariant-loop-index l = l.all.items ++ held_list l.name l.index (drop l.index l.entries) ≡ l.initial.all.items ++ held_list l.name 0 l.entries
