use Rattle.std.proofs.Common.{arith}
use Rattle.std.proofs.lemmas.List.{length-set}
use Rattle.hk_audit.proofs.Indices.{index_turn, index_late, index_alone}
use Rattle.hk_audit.proofs.paths.path_in.Goals as goal

pub returns-then-count-eq8 : goal.returns-then-count-eq8
returns-then-count-eq8 c =
    index_late _ _ _ c.in-Ok.part.now c.loop-part.indices c.loop-part.count c.in-Ok.ensures.next c.if-count-eq8.true
    (omega (arith, c.loop-part.invariant.few, c.loop-part.invariant.room)) c.loop-part.invariant.values

pub loop-part-preserved : goal.loop-part-preserved
loop-part-preserved c =
    let turn = index_turn _ _ _ c.in-Ok.part.now c.loop-part.indices c.loop-part.count c.in_ok-indices.field-0 c.in-Ok.ensures.next (rw c.in_ok-indices.was at c.index.ensures)
    (omega (arith, c.loop-part.invariant.few, c.loop-part.invariant.room, c.if-count-eq8.false)) c.loop-part.invariant.values c.loop-part.invariant.good in
    record {
      few = omega (arith, c.loop-part.invariant.few, c.if-count-eq8.false);
      room = rw length-set c.loop-part.invariant.room;
      values = turn.0;
      good = turn.1;
    }

pub returns-then-count-lt2 : goal.returns-then-count-lt2
returns-then-count-lt2 c =
    index_alone _ _ c.loop-part.indices c.loop-part.count c.in_default.ensures.none c.if-count-lt2.true
    (omega (arith, c.loop-part.invariant.few, c.loop-part.invariant.room)) c.loop-part.invariant.values
