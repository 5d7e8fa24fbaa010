use Rattle.std.proofs.Common.{arith}
use Rattle.std.proofs.lemmas.Bool.Decides.{nat_tests}
use Rattle.hk_objects.proofs.Frees.{idle_none, some_idle, no_items}
use Rattle.hk_objects.proofs.free_slots.FreeSlots.is_empty.Goals as goal

pub returns-then-is_empty-clause-yes : goal.returns-then-is_empty-clause-yes
returns-then-is_empty-clause-yes c end =
    rw (← c.self.view_is)
    (idle_none c.self.inside.given.items c.self.inside.fresh
    (no_items c.self.inside.given (grind (arith, nat_tests, c.is_empty.ensures, c.if-is_empty.true))) (grind (arith, nat_tests, end)))

pub returns-then-is_empty-clause-no : goal.returns-then-is_empty-clause-no
returns-then-is_empty-clause-no c end =
    rw (← c.self.view_is) (some_idle c.self.inside.given.items c.self.inside.fresh c.self.invariant.slots (grind (arith, nat_tests, end, c.self.invariant.low)))

pub returns-else-is_empty-clause-no : goal.returns-else-is_empty-clause-no
returns-else-is_empty-clause-no c some =
    rw (← c.self.view_is)
    (some_idle c.self.inside.given.items c.self.inside.fresh c.self.invariant.slots (grind (arith, nat_tests, some, c.is_empty.ensures, c.self.inside.given.ok)))
