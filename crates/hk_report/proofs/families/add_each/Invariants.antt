-- The calls to come add the changes that are left.
use Rattle.std.proofs.Common.{◌≡◌, ◌++◌, map}
use Rattle.std.specs.Prelude.{drop}
use Rattle.hk_report.specs.Families.{change_under}
use Rattle.hk_report.proofs.families.add_each.Given as goal

abbrev pub invariant-loop-call : goal.invariant-loop-call
invariant-loop-call l =
    l.changes.items ++ map (change_under l.moment l.object) (drop l.call-index l.calls) ≡ l.initial.changes.items ++ map (change_under l.moment l.object) l.calls
