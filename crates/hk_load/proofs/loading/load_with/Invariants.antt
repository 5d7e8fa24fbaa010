use Rattle.std.proofs.Common.{◌≡◌, [], length}
use Rattle.std.specs.List.{AllByRecursion}
use Rattle.std.specs.Vec.Iter.{into_iter_items, into_iter_len}
use Rattle.hk_format.specs.declared.syntax.Item.{Item}
use Rattle.hk_format.specs.Loading.{items_of, load}
use Rattle.hk_load.specs.Jumping.{HasNewLabels}
use Rattle.hk_load.specs.Building.{built_of, counts_of, after}
use Rattle.hk_load.proofs.loading.load_with.Given as goal

abbrev pub invariant-loop-item : goal.invariant-loop-item
invariant-loop-item l = record {
  new : AllByRecursion (λ (i : Item). HasNewLabels [] i.parts) (into_iter_items l.item-iterator);
  all : after (built_of l.loaded) (items_of l.declared (counts_of (built_of l.loaded)) (into_iter_items l.item-iterator)) ≡ load l.fn.items.items;
  left : into_iter_len l.item-iterator ≡ length (into_iter_items l.item-iterator);
}
