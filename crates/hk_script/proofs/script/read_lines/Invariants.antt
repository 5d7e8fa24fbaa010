use Rattle.std.proofs.Common.{◌≡◌}
use Rattle.hk_format.specs.Texts.{text}
use Rattle.hk_text.specs.Ahead.{lines_ahead, bytes_ahead, HasNumbers}
use Rattle.hk_script.specs.Progresses.{items_after, checked, KeepsNames}
use Rattle.hk_script.proofs.script.read_lines.Given as goal

abbrev pub invariant-loop-alloc : goal.invariant-loop-alloc
invariant-loop-alloc l = record {
  source : l.lines.source.now ≡ l.source;
  numbers : HasNumbers l.lines;
  read : checked (lines_ahead l.lines) (items_after l.progress) ≡ checked (text l.source) (items_after l.fn.progress);
  names : KeepsNames l.fn.progress → KeepsNames l.progress;
}

abbrev pub decreases-loop-alloc : goal.decreases-loop-alloc
decreases-loop-alloc l = bytes_ahead l.lines
