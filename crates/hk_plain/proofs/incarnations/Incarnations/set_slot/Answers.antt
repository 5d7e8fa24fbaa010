-- The incarnation keeps its process.
use Rattle.std.proofs.Common.{refl, subst}
use Rattle.hk_plain.specs.Counts.{Moved, slot_names}
use Rattle.hk_plain.specs.Stacks.{LiveOnes}
use Rattle.hk_plain.specs.Stacks.{with_slot}
use Rattle.hk_plain.proofs.StackLemmas.{stacked_written}
use Rattle.hk_plain.proofs.incarnations.Incarnations.set_slot.Goals as goal

pub invariant_of-self : goal.invariant_of-self
invariant_of-self c =
    rw c.write.ensures.live (stacked_written c.self.inside.live.entries c.self.inside.stacks c.self.inside.next c.args.inc
    (with_slot c.self.inside.live.entries c.args.inc c.args.slot c.args.entry) c.self.invariant refl)

pub returns-clause-counted : goal.returns-clause-counted
returns-clause-counted c =
    subst (λ (ones : LiveOnes). Moved c.args.counts.now c.write.new.counts (slot_names c.write.new.live.entries) (slot_names ones.live)) c.self.view_is c.write.ensures.counted
