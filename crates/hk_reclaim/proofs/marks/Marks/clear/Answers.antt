use Rattle.std.proofs.Common.{arith}
use Rattle.hk_reclaim.proofs.Marking.{none_marked}
use Rattle.hk_reclaim.proofs.marks.Marks.clear.Goals as goal

pub invariant_of-self : goal.invariant_of-self
invariant_of-self c = rw c.clear.ensures.items (none_marked _ c.lower_flags.ensures.down, omega (arith, c.lower_flags.ensures.size, c.clear.ensures.capacity, c.self.invariant.1))
