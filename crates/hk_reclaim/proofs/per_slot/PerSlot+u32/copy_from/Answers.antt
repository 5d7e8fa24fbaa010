use Rattle.std.proofs.Common.{◌<◌, ◌≤◌, ◌∙◌, sym, arith, ⊎_elim}
use Rattle.std.proofs.lemmas.Bool.{cases_lt}
use Rattle.std.proofs.lemmas.List.{get_or_past}
use Rattle.hk_reclaim.proofs.per_slot.PerSlot+u32.copy_from.Goals as goal

pub returns-clause-numbers : goal.returns-clause-numbers
returns-clause-numbers c = λ k high. ⊎_elim
    (λ (done : k < c.loop-slot.slot). c.loop-slot.invariant.numbers k high done)
    (λ (past : c.loop-slot.slot ≤ k).
    get_or_past c.loop-slot.self k 0 (omega (arith, c.loop-slot.invariant.size, c.size-slot-end.ensures)) ∙ sym (get_or_past c.args.other.now k 0 (omega (arith, c.size-slot-end.ensures, c.requires))))
    (cases_lt k c.loop-slot.slot)
