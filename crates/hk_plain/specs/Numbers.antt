-- The numbers that objects and incarnations take next, which never run out. docs/RULES.md, "Limits".
use Rattle.std.specs.Prelude.{◌+◌, ◌<◌, ◌≤◌, ◌^◌}
use Rattle.hk_model.specs.State.{State}

-- there are numbers for one more of each
abbrev pub HasNumbers : State → Type 0
HasNumbers s = (s.next_name.0 < 2 ^ 63) × (s.next_inc.0 < 2 ^ 63)

-- they rise by one at most
abbrev pub TakesOne : State → State → Type 0
TakesOne before after = (after.next_name.0 ≤ before.next_name.0 + 1) × (after.next_inc.0 ≤ before.next_inc.0 + 1)

-- an event takes one of each at most, and a world opens with at most 65,536 objects and 256 incarnations
abbrev pub FewNumbers : State → Type 0
FewNumbers s = (s.next_name.0 ≤ 65536 + s.events) × (s.next_inc.0 ≤ 256 + s.events)
