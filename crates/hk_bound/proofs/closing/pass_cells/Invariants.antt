use Rattle.std.proofs.Common.{[]}
use Rattle.hk_bound.specs.Filled.{Gains}
use Rattle.hk_bound.proofs.closing.pass_cells.Given as goal

abbrev pub invariant-loop-column : goal.invariant-loop-column
invariant-loop-column l = Gains l.world l.forms l.fn.rows [] l.gaps.items
