use Rattle.std.proofs.Common.{◌<◌, length, arith}
use Rattle.hk_trace.specs.Writings.{way_back}
use Rattle.hk_trace.proofs.WaysBack.{back_none, back_came, back_made}
use Rattle.hk_trace.proofs.following.follow.Goals as goal
use Rattle.hk_trace.proofs.following.follow.Goals.{in-Nowhere, in-Came+in_ok-push-in-Came}

pub returns-in-Made : goal.returns-in-Made
returns-in-Made c =
    let some : 0 < c.loop-line.line = omega arith in
    rw c.from_vec.ensures
    (back_made c.args.writings.now c.loop-line.line c.loop-line.place c.loop-line.links.items (way_back c.args.writings.now (length c.args.writings.now) c.args.from)
    c.index-writings-line.result c.source_in-source.result some c.loop-line.invariant.few c.index-writings-line.is c.source_in-source.ensures c.in-Made.is
    c.loop-line.invariant.found)

pub loop-line-preserved : goal.loop-line-preserved
loop-line-preserved c = record {
  few = omega arith;
  found = elim c.match-source.branch [
    | in-Nowhere w ↦ let some : 0 < c.loop-line.line = omega arith in
        rw (w.links-is, w.place-is)
        (back_none c.args.writings.now c.loop-line.line c.loop-line.place c.loop-line.links.items (way_back c.args.writings.now (length c.args.writings.now) c.args.from)
        c.index-writings-line.result c.source_in-source.result some c.loop-line.invariant.few c.index-writings-line.is
        c.source_in-source.ensures w.in-Nowhere.is c.loop-line.invariant.found)
    | in-Came+in_ok-push-in-Came w ↦ let some : 0 < c.loop-line.line = omega arith in
        rw (w.links-is, w.place-is, w.in_ok-push-in-Came.ensures.items)
        (back_came c.args.writings.now c.loop-line.line c.loop-line.place c.loop-line.links.items (way_back c.args.writings.now (length c.args.writings.now) c.args.from)
        c.index-writings-line.result c.source_in-source.result w.in-Came.from some c.loop-line.invariant.few c.index-writings-line.is
        c.source_in-source.ensures w.in-Came.is c.loop-line.invariant.found)
  ];
}
