-- The objects of the parameters of the calls so far are told.
use Rattle.std.specs.Prelude.{take}
use Rattle.std.specs.List.{AllByRecursion}
use Rattle.hk_report.specs.Moments.{told_by}
use Rattle.hk_report.specs.Reachable.{begins_at, AreHeldBy}
use Rattle.hk_report.specs.Reasons.{params_at}
use Rattle.hk_report.proofs.MomentLemmas.{IsEarlierAnd}
use Rattle.hk_report.proofs.reachable.Moments.begin.Given as goal

abbrev pub invariant-loop-bare : goal.invariant-loop-bare
invariant-loop-bare l =
    IsEarlierAnd l.fn.self l.self
    (AllByRecursion (λ bare. AreHeldBy (told_by l.self) (begins_at l.side bare.under.moment) (params_at l.families l.params bare.under.call)) (take l.bare-index l.changes))
