-- The changes so far are told, and the ways that are kept of calls are all that matter.
use Rattle.std.proofs.Common.{take}
use Rattle.hk_report.specs.Keeping.{AreKeptOf}
use Rattle.hk_report.specs.Reasons.{AreTold}
use Rattle.hk_report.proofs.reasons.Grounds.explain_all.Given as goal

abbrev pub invariant-loop-bare : goal.invariant-loop-bare
invariant-loop-bare l =
    AreTold l.self.families.now l.self.histories.now l.self.params.now (take l.bare-index l.bares) l.changes.items
    × AreKeptOf l.self.families.now l.self.histories.now l.self.params.now l.keeping.fronts.items
