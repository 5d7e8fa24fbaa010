-- Streams in memory that fail at planned calls (docs/STREAMS.md, "Planned streams").
use Rattle.std.specs.Prelude.{ℕ, ◌+◌, ◌-◌, ◌^◌, ◌≤◌, ◌<◌, ◌⊎◌, min, List, ◌++◌, length, drop, Contains}
use Rattle.hk_io.specs.Causes.{next_count}

-- the most bytes that a call passes, the numbers of the calls that fail, the calls so far, the faults so far
pub record Plan : Type 0 where
  pub each : ℕ
  pub fails : List ℕ
  pub calls : ℕ
  pub faults : ℕ

-- the bytes that are left, and the plan of the reads
pub record Input : Type 0 where
  pub left : List ℕ
  pub plan : Plan

-- the bytes taken, how many there can be at most, and the plan of the writes
pub record Output : Type 0 where
  pub taken : List ℕ
  pub room : ℕ
  pub plan : Plan

-- the number of the next call, counted from 1; it stays at 2 ^ 32 - 1
abbrev pub next_call : Plan → ℕ
next_call plan = min (plan.calls + 1) (2 ^ 32 - 1)

-- the next call is one of those that fail
abbrev pub FailsNext : Plan → Type 0
FailsNext plan = Contains plan.fails (next_call plan)

-- a plan after one more call
abbrev pub after_call : Plan → Plan
after_call plan = record plan { calls = next_call plan }

-- a plan after one more fault
abbrev pub after_fault : Plan → Plan
after_fault plan = record plan { faults = next_count plan.faults }

-- an input after a read of n bytes: they are gone from the front
abbrev pub after_read : Input → ℕ → Input
after_read input n = record { left = drop n input.left; plan = after_call input.plan }

-- an input after a read that failed: no byte is gone
abbrev pub after_failed_read : Input → Input
after_failed_read input = record { left = input.left; plan = after_fault (after_call input.plan) }

-- the next write of this piece fails: it is planned to, or there are bytes to take and no room is left
abbrev pub RefusesNext : Output → List ℕ → Type 0
RefusesNext output piece = FailsNext output.plan ⊎ ((0 < length piece) × (output.room ≤ length output.taken))

-- an output after a write of these bytes: they stand behind the bytes taken
abbrev pub after_write : Output → List ℕ → Output
after_write output bytes = record { taken = output.taken ++ bytes; room = output.room; plan = after_call output.plan }

-- an output after a write that failed: no byte is added
abbrev pub after_failed_write : Output → Output
after_failed_write output = record { taken = output.taken; room = output.room; plan = after_fault (after_call output.plan) }
