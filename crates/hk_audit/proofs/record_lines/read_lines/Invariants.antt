use Rattle.std.proofs.Common.{◌≡◌, ◌+◌, length}
use Rattle.hk_format.specs.Texts.{without_last_empty}
use Rattle.hk_format.specs.Audits.{events_from}
use Rattle.hk_audit.specs.Left.{texts}
use Rattle.hk_audit.proofs.RecordEvents.{after_lines}
use Rattle.hk_audit.proofs.record_lines.read_lines.Given as goal

abbrev pub invariant-loop-line : goal.invariant-loop-line
invariant-loop-line l = record {
  few : l.number + length (without_last_empty (texts l.left)) ≡ l.first + length (without_last_empty (texts l.fn.left));
  rest : after_lines l.lines (events_from l.number (texts l.left)) ≡ events_from l.first (texts l.fn.left);
}

abbrev pub decreases-loop-line : goal.decreases-loop-line
decreases-loop-line l = length (without_last_empty (texts l.left))
