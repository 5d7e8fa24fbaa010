-- Each list has been gone over, or is due, and no less is told than was.
use Rattle.std.proofs.Common.{ℕ}
use Rattle.hk_model.specs.declared.names.Name.{Name}
use Rattle.hk_report.specs.Moments.{told_by, IsUnderway}
use Rattle.hk_report.specs.Reachable.{IsBy}
use Rattle.hk_report.proofs.reachable.Moments.spread.Given as goal

abbrev pub invariant-loop : goal.invariant-loop
invariant-loop l = IsUnderway l.side l.histories l.self × ((name : Name) → (bound : ℕ) → IsBy (told_by l.fn.self name) bound → IsBy (told_by l.self name) bound)
