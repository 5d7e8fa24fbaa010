-- What is so of the parameters from this number on is so of all.
use Rattle.std.specs.Prelude.{drop}
use Rattle.hk_report.specs.Fronts.{AreStarted}
use Rattle.hk_report.proofs.fronts.are_started.Given as goal

abbrev pub invariant-loop-index : goal.invariant-loop-index
invariant-loop-index l = AreStarted l.all l.moment l.index (drop l.index l.params) → AreStarted l.all l.moment 0 l.params
