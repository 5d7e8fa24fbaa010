use Rattle.std.proofs.Common.{arith, map}
use Rattle.hk_text.specs.Views.{line_seen}
use Rattle.hk_text.proofs.PiecesGood.{text_good}
use Rattle.hk_script.specs.Progresses.{items_after}
use Rattle.hk_script.proofs.ProgressLemmas.{next_good, next_turn, parsed_good}
use Rattle.hk_script.proofs.script.parse.Goals as goal

pub loop-line-init : goal.loop-line-init
loop-line-init c = record {
  good = text_good c.args.source.now (map (line_seen c.args.source.now) c.args.lines.now) c.requires;
  read = c.new-progress.ensures.items (map (line_seen c.args.source.now) c.args.lines.now);
  names = c.new-progress.ensures.names;
}

pub loop-line-preserved : goal.loop-line-preserved
loop-line-preserved c = record {
  good = (next_good c.args.source.now c.args.lines.now c.loop-line.line-index c.line-item.result c.loop-line-test.true c.line-item.is c.loop-line.invariant.good).1;
  read =
      next_turn c.args.source.now c.args.lines.now c.loop-line.line-index c.line-item.result (items_after c.loop-line.progress) (items_after c.line.new.self) _
      c.loop-line-test.true c.line-item.is c.loop-line.invariant.read (rw c.as_slice.ensures at c.in_ok-line.ensures.items);
  names = c.in_ok-line.ensures.names c.loop-line.invariant.names;
}

pub invariant_of-result : goal.invariant_of-result
invariant_of-result c = (
  parsed_good c.args.source.now c.args.lines.now c.loop-line.line-index (items_after c.loop-line.progress) c.in_ok-items.items c.requires c.loop-line.invariant.read
      (omega (arith, c.loop-line-test.false)) c.in_ok-items.ensures.items,
  c.in_ok-items.ensures.names,
)
