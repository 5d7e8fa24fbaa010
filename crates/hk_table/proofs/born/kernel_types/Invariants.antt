use Rattle.std.proofs.Common.{replicate}
use Rattle.hk_model.specs.State.{no_object}
use Rattle.hk_table.proofs.ObjectsOpened.{IsOpened}
use Rattle.hk_table.proofs.born.kernel_types.Given as goal

abbrev pub invariant-loop-n : goal.invariant-loop-n
invariant-loop-n l = IsOpened l.objects (replicate l._n no_object)
