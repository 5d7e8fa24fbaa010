-- The free slots, of which most were never taken.
use Rattle.std.specs.Prelude.{ℕ, ◌≤◌, ◌-◌, List, ◌++◌, reverse, vec_capacity}
use Rattle.std.specs.List.{range_with_len}
use Rattle.std.specs.Global.{Vec}
use Rattle.hk_objects.specs.Indexed.{AreSlots}

-- those that were given back, of which the last one is first, and behind them all from one on
unfoldable pub idle : List ℕ → ℕ → List ℕ
idle given fresh = reverse given ++ range_with_len fresh (65536 - fresh)

-- each slot once, with room for all
pub record IsIdle (given : Vec ℕ) (fresh : ℕ) : Type 0 where
  pub slots : AreSlots (idle given.items fresh)
  pub low : fresh ≤ 65536
  pub room : 65536 ≤ vec_capacity given
