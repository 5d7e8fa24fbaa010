use Rattle.std.proofs.Common.{◌≡◌, ◌+◌, drop}
use Rattle.hk_model.specs.Rule.{slots_at}
use Rattle.hk_table.proofs.procedures.slots_at.Given as goal

-- the slots that are left tell what all of them tell
abbrev pub invariant-loop-i : goal.invariant-loop-i
invariant-loop-i l = slots_at (drop l.i l.slots) (l.first + l.i) ≡ slots_at l.slots l.first
