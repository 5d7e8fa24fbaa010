-- A value for each slot, as it stands in memory.
use Rattle.std.specs.Prelude.{ℕ, ◌≤◌}

-- the first values stand, no more than there are slots, and there is room for all
pub record IsInFront (front size room : ℕ) : Type 0 where
  pub within : front ≤ size
  pub reserved : size ≤ room
