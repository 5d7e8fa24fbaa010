-- A list as long as the table has slots, of which only the front is kept.
use Rattle.std.specs.Prelude.{◌≤◌, ◌-◌, List, ◌++◌, Option, None, length, replicate, vec_capacity}
use Rattle.std.specs.Global.{Vec}

-- behind the front nothing stands
unfoldable pub padded : {X : Type 0} → List (Option X) → List (Option X)
padded front = front ++ replicate (65536 - length front) None

-- there is room for all of it
pub record IsFront {X : Type 0} (front : Vec (Option X)) : Type 0 where
  pub few : length front.items ≤ 65536
  pub room : 65536 ≤ vec_capacity front
