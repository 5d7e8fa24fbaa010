use Rattle.std.proofs.Common.{◌≡◌, [], replicate}
use Rattle.hk_plain.specs.Counts.{Moved, inner_names}
use Rattle.hk_model.specs.State.{no_object}
use Rattle.hk_plain.specs.Opening.{with_names}
use Rattle.hk_plain.proofs.opening.kernel_types.Given as goal

abbrev pub invariant-loop-n : goal.invariant-loop-n
invariant-loop-n l = record {
  objects : l.objects.entries ≡ with_names (replicate l.n no_object);
  counted : Moved l.fn.counts l.counts (inner_names l.objects.entries) [];
}
