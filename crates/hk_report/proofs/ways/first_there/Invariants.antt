-- None so far is there.
use Rattle.std.proofs.Common.{◌≡◌}
use Rattle.std.specs.Prelude.{drop}
use Rattle.hk_report.specs.Fronts.{first_there}
use Rattle.hk_report.proofs.ways.first_there.Given as goal

abbrev pub invariant-loop-way : goal.invariant-loop-way
invariant-loop-way l = first_there l.handed l.moment (drop l.way-index l.ways) ≡ first_there l.handed l.moment l.ways
