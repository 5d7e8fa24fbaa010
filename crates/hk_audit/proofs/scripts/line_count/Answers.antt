use Rattle.std.proofs.Common.{arith}
use Rattle.std.proofs.lemmas.List.{length-drop}
use Rattle.hk_text.proofs.Turns.{line_count}
use Rattle.hk_audit.proofs.scripts.line_count.Goals as goal

pub loop-start-preserved : goal.loop-start-preserved
loop-start-preserved c = record {
  low = let size = length-drop c.loop-start.start c.args.bytes.now in omega (arith, c.first_of.ensures.within);
  counts = line_count c.args.bytes.now c.loop-start.start c.loop-start.count c.first_of.result _ (omega arith) c.first_of.ensures.place c.loop-start.invariant.counts;
}
