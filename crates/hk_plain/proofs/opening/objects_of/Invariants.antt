use Rattle.std.proofs.Common.{◌≡◌, [], ◌++◌, take, map, replicate}
use Rattle.hk_model.specs.declared.world.Born.{Born}
use Rattle.hk_model.specs.State.{no_object}
use Rattle.hk_model.specs.Opening.{object_of}
use Rattle.hk_plain.specs.Counts.{Moved, inner_names}
use Rattle.hk_plain.specs.Opening.{with_names}
use Rattle.hk_plain.proofs.opening.objects_of.Given as goal

abbrev pub invariant-loop-i : goal.invariant-loop-i
invariant-loop-i l = record {
  objects : l.objects.entries ≡ with_names (replicate 7 no_object ++ map (λ (b : Born). object_of b.kind) (take l.i l.born));
  counted : Moved l.fn.counts l.counts (inner_names l.objects.entries) [];
}
