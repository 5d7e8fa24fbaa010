-- What is told so far of when ways can be at objects. docs/RULES.md, "Reaches".
use Rattle.std.specs.Prelude.{◌≡◌, ◌⊎◌, ℕ, List, Option, Some}
use Rattle.std.specs.List.{Contains}
use Rattle.std.specs.BinaryHeap.{heap_items}
use Rattle.std.specs.declared.cmp.Reverse.{Reverse}
use Rattle.hk_model.specs.declared.names.Name.{Name}
use Rattle.hk_report.specs.declared.histories.History.{History}
use Rattle.hk_report.specs.declared.reachable.Due.{Due}
use Rattle.hk_report.specs.declared.reachable.Moments.{Moments}
use Rattle.hk_report.specs.declared.reachable.Side.{Side}
use Rattle.hk_report.specs.Histories.{history_of}
use Rattle.hk_report.specs.Reachable.{moment_at, IsBy, AreGoneOver}

abbrev pub told_by : Moments → Name → Option ℕ
told_by moments name = moment_at moments.told.items name

-- an object whose list is to be gone over, and what was told of it then
abbrev pub due_at : ℕ → Name → Reverse Due
due_at moment name = record { 0 = record { moment = moment; name = name } }

-- a list is to be gone over yet, by what is told of its object now
pub record IsDue (moments : Moments) (name : Name) : Type 0 where
  pub moment : ℕ
  pub told : told_by moments name ≡ Some moment
  pub waits : Contains (heap_items moments.due) (due_at moment name)

-- of no object is more told than it was, and where less is told now, its list is to be gone over
pub record IsEarlier (before after : Moments) : Type 0 where
  pub earlier : (name : Name) → (bound : ℕ) → IsBy (told_by before name) bound → IsBy (told_by after name) bound
  pub keeps : (due : Reverse Due) → Contains (heap_items before.due) due → Contains (heap_items after.due) due
  pub fresh : (name : Name) → (told_by after name ≡ told_by before name) ⊎ IsDue after name

-- each list has been gone over, or is to be
abbrev pub IsUnderway : Side → List History → Moments → Type 0
IsUnderway side histories moments = (name : Name) → AreGoneOver side (told_by moments) (told_by moments name) (history_of histories name).spans ⊎ IsDue moments name
