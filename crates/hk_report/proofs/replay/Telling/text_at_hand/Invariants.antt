-- The changes so far are written.
use Rattle.std.proofs.Common.{take, string_bytes, []}
use Rattle.hk_report.specs.Written.{AreWritten}
use Rattle.hk_report.proofs.replay.Telling.text_at_hand.Given as goal

abbrev pub invariant-loop-bare : goal.invariant-loop-bare
invariant-loop-bare l = AreWritten l.self.families.calls l.self.histories.items l.self.params (take l.bare-index l.self.families.changes.items) [] (string_bytes l.text)
