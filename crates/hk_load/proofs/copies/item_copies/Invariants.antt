use Rattle.std.proofs.Common.{◌≡◌, take}
use Rattle.hk_load.proofs.copies.item_copies.Given as goal

abbrev pub invariant-loop-item : goal.invariant-loop-item
invariant-loop-item l = l.copies ≡ take l.item-index l.items
