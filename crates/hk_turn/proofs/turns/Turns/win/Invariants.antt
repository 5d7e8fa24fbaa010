use Rattle.std.proofs.Common.{◌≡◌}
use Rattle.hk_turn.proofs.turns.Turns.win.Given as goal

-- no try was won yet, so the seat is as it was
abbrev pub invariant-loop : goal.invariant-loop
invariant-loop g l =
    ((goal.iterator-loop g).can_next l.iterator' × (goal.iterator-loop g).is_finite l.iterator')
    × (l.seat.table_id ≡ l.initial.seat.table_id) × (l.seat.me ≡ l.initial.seat.me)
