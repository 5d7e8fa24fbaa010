use Rattle.std.proofs.Common.{◌≡◌, ◌+◌, ◌-◌, ◌≤◌, length}
use Rattle.hk_audit.specs.RecordCuts.{texts_of, script_length}
use Rattle.hk_audit.proofs.RecordSplits.{texts_at}
use Rattle.hk_audit.proofs.scripts.script_length.Given as goal

abbrev pub invariant-loop-start : goal.invariant-loop-start
invariant-loop-start l = record {
  low : l.start ≤ length l.bytes + 1;
  rest : l.start + script_length (texts_at l.start l.bytes) ≡ script_length (texts_of l.bytes);
}

abbrev pub decreases-loop-start : goal.decreases-loop-start
decreases-loop-start l = length l.bytes + 1 - l.start
