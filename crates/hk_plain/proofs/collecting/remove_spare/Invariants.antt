use Rattle.std.proofs.Common.{◌≡◌}
use Rattle.hk_plain.specs.Counts.{Moved, inner_names}
use Rattle.hk_plain.specs.Removing.{ObjectsWent}
use Rattle.hk_plain.proofs.SpareGone.{removed_beside}
use Rattle.hk_plain.proofs.collecting.remove_spare.Given as goal

-- without the rest of the names, the objects are those without all names
abbrev pub invariant-loop-other : goal.invariant-loop-other
invariant-loop-other l = record {
  objects : removed_beside l.name l.other-iterator l.objects.entries ≡ removed_beside l.name l.spare.keys l.fn.objects.entries;
  counted : Moved l.fn.counts l.counts (inner_names l.objects.entries) (inner_names l.fn.objects.entries);
  went : ObjectsWent l.fn.objects.entries l.objects.entries l.fn.removed l.removed;
}
