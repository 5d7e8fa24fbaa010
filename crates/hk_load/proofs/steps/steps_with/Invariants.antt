use Rattle.std.proofs.Common.{◌≡◌, length}
use Rattle.std.specs.Vec.Iter.{into_iter_items, into_iter_len}
use Rattle.hk_format.specs.Loading.{instrs_of}
use Rattle.hk_load.specs.Jumping.{after_steps}
use Rattle.hk_load.proofs.steps.steps_with.Given as goal

abbrev pub invariant-loop-part : goal.invariant-loop-part
invariant-loop-part l = record {
  all : after_steps l.steps (instrs_of l.labels (length l.steps) (into_iter_items l.part-iterator)) ≡ instrs_of l.labels 0 l.fn.parts.items;
  left : into_iter_len l.part-iterator ≡ length (into_iter_items l.part-iterator);
}
