-- The objects of the parameters so far are told.
use Rattle.std.specs.Prelude.{take}
use Rattle.hk_report.specs.Moments.{told_by}
use Rattle.hk_report.specs.Reachable.{AreHeldBy}
use Rattle.hk_report.proofs.MomentLemmas.{IsEarlierAnd}
use Rattle.hk_report.proofs.reachable.Moments.tell_params.Given as goal

abbrev pub invariant-loop-param : goal.invariant-loop-param
invariant-loop-param l = IsEarlierAnd l.fn.self l.self (AreHeldBy (told_by l.self) l.moment (take l.param-index l.params))
