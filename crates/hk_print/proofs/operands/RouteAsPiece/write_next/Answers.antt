use Rattle.std.proofs.Common.{rules, string_bytes}
use Rattle.hk_model.specs.declared.instructions.Index.TheVariants.{Fixed}
use Rattle.hk_format.specs.Pieces.{spell_index}
use Rattle.hk_print.proofs.Joined.{joined_next, separated_next}
use Rattle.hk_print.proofs.operands.RouteAsPiece.write_next.Goals as goal

pub loop-index-preserved : goal.loop-index-preserved
loop-index-preserved c = record {
  ascii = search rules;
  text =
      joined_next 46 spell_index (string_bytes c.push.new.self) c.as_slice-index-items.result.now c.loop-index.index-index _ c.loop-index-test.true c.loop-index.invariant.text c.loop-index.invariant.before
      c.in_ok-push_str.ensures.bytes c.in_ok-write_index.ensures;
  before = separated_next 46 c.as_slice-index-items.result.now c.loop-index.index-index (Fixed 0) c.loop-index-test.true;
}
