use Rattle.std.proofs.Common.{◌≡◌, ◌+◌, ◌<◌, ◌++◌, [], length, List, vec_len, false}
use Rattle.hk_turn.specs.declared.pass.Pass.{Pass}
use Rattle.hk_turn.specs.Passes.{RemembersAll}
use Rattle.hk_turn.specs.Turns.{seat_count}
use Rattle.hk_turn.proofs.turns.Turns.join_passes.Given as goal

-- the seat stands for the passes that were joined, the last of the list, and remembers them
abbrev pub invariant-loop-pass : goal.invariant-loop-pass
invariant-loop-pass g l =
    (l.seat.table_id ≡ l.self.table.shared.table_id) × (l.seat.me.1 ≡ []) × (l.seat.me.0.holds ≡ false)
    × (l.seat.me.0.weight + length l.passes.items ≡ seat_count l.self)
    × (0 < l.seat.me.0.weight)
    × ((joined : List (Pass g.row.T-Entry.Denot)) × (l.fn.passes.items ≡ l.passes.items ++ joined) × RemembersAll l.seat.me.0 joined)

abbrev pub decreases-loop-pass : goal.decreases-loop-pass
decreases-loop-pass g l = vec_len l.passes
