use Rattle.std.proofs.Common.{◌≡◌, ◌+◌, ◌-◌, [], length}
use Rattle.hk_turn.specs.Views.{blank_view}
use Rattle.hk_turn.specs.Turns.{seat_count, AreNewPasses}
use Rattle.hk_turn.proofs.turns.Turns.new.Given as goal

-- the passes below that number are made; the first seat stands for itself and for those that are left
abbrev pub invariant-loop-number : goal.invariant-loop-number
invariant-loop-number g l =
    (l.first.table_id ≡ l.turns.table.shared.table_id)
    × (l.first.me ≡ (blank_view 0 l.number (seat_count l.turns + 1 - l.number) (seat_count l.turns), []))
    × (length l.passes.items + 1 ≡ l.number) × AreNewPasses l.turns 1 l.passes.items
