use Rattle.std.proofs.Common.{◌≡◌, ◌++◌}
use Rattle.std.specs.Prelude.{replicate, None}
use Rattle.hk_report.proofs.histories.padded.Given as goal

-- so many are added
abbrev pub invariant-loop : goal.invariant-loop
invariant-loop l = l.all.items ≡ l.initial.all.items ++ replicate l.counter None
