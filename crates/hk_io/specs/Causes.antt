-- When a fault may be answered (docs/STREAMS.md, "Faults").
use Rattle.std.specs.Prelude.{ℕ, ◌+◌, ◌-◌, ◌^◌, ◌≤◌, min, Result, OnErr}

-- a count of faults goes up to this value and stays there
abbrev pub last_count : ℕ
last_count = 2 ^ 64 - 1

-- a count of faults after one more fault
abbrev pub next_count : ℕ → ℕ
next_count count = min (count + 1) last_count

-- a count of faults went up, or stands at its last value
abbrev pub Rose : ℕ → ℕ → Type 0
Rose before after = next_count before ≤ after

-- the count of faults has not fallen, and an error comes only where it rose
pub record HasCause {T E : Type 0} (before after : ℕ) (result : Result T E) : Type 0 where
  pub later : before ≤ after
  pub failed : OnErr result (Rose before after)
