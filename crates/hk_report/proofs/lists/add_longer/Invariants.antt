-- The items so far are copied.
use Rattle.std.proofs.Common.{◌≡◌, ◌++◌}
use Rattle.std.specs.List.{slice_range}
use Rattle.hk_report.proofs.lists.add_longer.Given as goal

abbrev pub invariant-loop-at : goal.invariant-loop-at
invariant-loop-at g l = l.items.items ≡ l.initial.items.items ++ slice_range l.initial.items.items l.fn.place.start l.at
