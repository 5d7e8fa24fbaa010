use Rattle.std.proofs.Common.{◌≡◌, true, map, drop}
use Rattle.std.specs.List.{list_all}
use Rattle.hk_format.specs.Grammar.{script}
use Rattle.hk_text.specs.Views.{line_seen}
use Rattle.hk_text.proofs.PiecesGood.{is_good}
use Rattle.hk_script.specs.Progresses.{items_after, KeepsNames}
use Rattle.hk_script.proofs.script.parse.Given as goal

abbrev pub invariant-loop-line : goal.invariant-loop-line
invariant-loop-line l = record {
  good : list_all is_good (map (line_seen l.source) (drop l.line-index l.lines)) ≡ true;
  read : items_after l.progress (map (line_seen l.source) (drop l.line-index l.lines)) ≡ script (map (line_seen l.source) l.lines);
  names : KeepsNames l.progress;
}
