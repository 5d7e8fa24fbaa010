-- The changes so far are written, and the ways that are kept of calls are all that matter.
use Rattle.std.proofs.Common.{take, string_bytes}
use Rattle.hk_report.specs.Keeping.{AreKeptOf}
use Rattle.hk_report.specs.Written.{AreWritten}
use Rattle.hk_report.proofs.reasons.Grounds.write_all.Given as goal

abbrev pub invariant-loop-bare : goal.invariant-loop-bare
invariant-loop-bare l =
    AreWritten l.self.families.now l.self.histories.now l.self.params.now (take l.bare-index l.bares) (string_bytes l.initial.out) (string_bytes l.out)
    × AreKeptOf l.self.families.now l.self.histories.now l.self.params.now l.keeping.fronts.items
