use Rattle.std.proofs.Common.{◌≡◌, take}
use Rattle.hk_load.proofs.copies.part_copies.Given as goal

abbrev pub invariant-loop-part : goal.invariant-loop-part
invariant-loop-part l = l.copies ≡ take l.part-index l.parts
