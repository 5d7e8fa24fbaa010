use Rattle.std.proofs.Common.{◌≡◌, ◌+◌, ◌-◌, ◌≤◌, length, drop}
use Rattle.hk_format.specs.Texts.{lines_of}
use Rattle.hk_audit.proofs.scripts.line_count.Given as goal

abbrev pub invariant-loop-start : goal.invariant-loop-start
invariant-loop-start l = record {
  low : l.start ≤ length l.bytes + 1;
  counts : l.count + length (lines_of (drop l.start l.bytes)) ≡ length (lines_of l.bytes);
}

abbrev pub decreases-loop-start : goal.decreases-loop-start
decreases-loop-start l = length l.bytes + 1 - l.start
