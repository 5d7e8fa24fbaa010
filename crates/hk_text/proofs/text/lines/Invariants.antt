use Rattle.std.proofs.Common.{◌≡◌, ◌+◌, ◌-◌, ◌≤◌, map, length, drop, min}
use Rattle.std.specs.List.{flat_map}
use Rattle.hk_format.specs.Texts.{text, text_lines, lines_of}
use Rattle.hk_text.specs.Views.{line_seen, line_pieces, LieBetween}
use Rattle.hk_text.proofs.Turns.{after_lines}
use Rattle.hk_text.proofs.text.lines.Given as goal

abbrev pub invariant-loop-start : goal.invariant-loop-start
invariant-loop-start l = record {
  low : l.start ≤ length l.bytes + 1;
  few : l.number + length (lines_of (drop l.start l.bytes)) ≡ 1 + length (lines_of l.bytes);
  rest : after_lines (map (line_seen l.bytes) l.lines) (text_lines l.number (lines_of (drop l.start l.bytes))) ≡ text l.bytes;
  spans : LieBetween 0 (min l.start (length l.bytes)) (flat_map line_pieces l.lines);
}

abbrev pub decreases-loop-start : goal.decreases-loop-start
decreases-loop-start l = length l.bytes + 1 - l.start
