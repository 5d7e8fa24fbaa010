use Rattle.std.proofs.Common.{◌≡◌, ◌∙◌, ℕ, true, get_or, arith}
use Rattle.hk_reclaim.specs.Tally.{has}
use Rattle.hk_reclaim.proofs.Marking.{flag_within, get_at, get_has, all_lowered}
use Rattle.hk_reclaim.proofs.marks.lower_flags.Goals as goal

pub set-requires : goal.set-requires
set-requires c =
    let slot : ℕ = get_or c.args.order.now c.loop-slot.slot-index 0 in
    let marked : has c.args.order.now slot ≡ true = get_has c.args.order.now c.loop-slot.slot-index slot (get_at c.args.order.now c.loop-slot.slot-index 0 c.loop-slot-test.true) in
    omega (arith, flag_within c.args.marked.now slot (c.requires slot ∙ marked), c.loop-slot.invariant.size)

pub returns-clause-down : goal.returns-clause-down
returns-clause-down c = all_lowered _ _ c.loop-slot.slot-index (omega arith) c.loop-slot.invariant.rest
