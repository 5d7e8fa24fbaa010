-- The objects so far have their blocks.
use Rattle.hk_report.specs.Reachable.{moment_at}
use Rattle.hk_report.proofs.HeldBlockLemmas.{AreHeldBlockedBelow}
use Rattle.hk_report.proofs.held_blocks.held_blocks.Given as goal

abbrev pub invariant-loop-held : goal.invariant-loop-held
invariant-loop-held l = AreHeldBlockedBelow (moment_at l.lasts) l.holders l.all.items l.held-index
