-- What follows for the spans so far is told.
use Rattle.std.proofs.Common.{Some}
use Rattle.std.specs.Prelude.{take}
use Rattle.hk_report.specs.Moments.{told_by}
use Rattle.hk_report.specs.Reachable.{AreGoneOver}
use Rattle.hk_report.proofs.MomentLemmas.{IsEarlierAnd}
use Rattle.hk_report.proofs.reachable.Moments.go_over.Given as goal

abbrev pub invariant-loop-span : goal.invariant-loop-span
invariant-loop-span l = IsEarlierAnd l.fn.self l.self (AreGoneOver l.side (told_by l.self) (Some l.moment) (take l.span-index l.spans))
