-- What is so of the ways from this place on is so of all.
use Rattle.std.specs.Prelude.{drop}
use Rattle.hk_report.specs.Fronts.{AreMetOver}
use Rattle.hk_report.proofs.fronts.are_met_over.Given as goal

abbrev pub invariant-loop-way : goal.invariant-loop-way
invariant-loop-way l = AreMetOver l.all l.handed l.made l.span (drop l.way-index l.ways) → AreMetOver l.all l.handed l.made l.span l.ways
