use Rattle.std.proofs.Common.{arith}
use Rattle.hk_report.proofs.BlockLemmas.{block_end, blocking_end, blocking_more, blocking_all}
use Rattle.hk_report.proofs.blocks.blocks_of.Goals as goal

pub slice_bounds-around-count : goal.slice_bounds-around-count
slice_bounds-around-count c =
    let split = c.split_at.ensures in
    (blocking_end c.args.spans.now c.args.ends.now c.loop-rest.all c.loop-rest.start c.loop-rest.rest.now c.split_at.result.0.now c.loop-rest.invariant split.front split.front_len).0

pub slice_bounds-around-start : goal.slice_bounds-around-start
slice_bounds-around-start c =
    let split = c.split_at.ensures in
    let inside =
    blocking_end c.args.spans.now c.args.ends.now c.loop-rest.all c.loop-rest.start c.loop-rest.rest.now c.split_at.result.0.now c.loop-rest.invariant split.front split.front_len in
    let low = inside.0 in
    let high = inside.1 in
    omega (arith, low, high)

pub slice_bounds-around-end : goal.slice_bounds-around-end
slice_bounds-around-end c =
    let split = c.split_at.ensures in
    let inside =
    blocking_end c.args.spans.now c.args.ends.now c.loop-rest.all c.loop-rest.start c.loop-rest.rest.now c.split_at.result.0.now c.loop-rest.invariant split.front split.front_len in
    let low = inside.0 in
    let high = inside.1 in
    omega (arith, low, high)

pub loop-rest-preserved : goal.loop-rest-preserved
loop-rest-preserved c =
    let split = c.split_at.ensures in
    rw split.back
    (blocking_more c.args.spans.now c.args.ends.now c.loop-rest.all c.push.new.self c.loop-rest.start _ c.loop-rest.rest.now c.around.result c.loop-rest.invariant
    c.loop-rest-test.true (block_end c.loop-rest.start c.loop-rest.rest.now c.split_at.result.0.now split.front split.front_len) c.around.ensures c.in_ok-push.ensures.ok)

pub returns : goal.returns
returns c = blocking_all c.args.spans.now c.args.ends.now c.loop-rest.all c.loop-rest.start c.loop-rest.rest.now c.loop-rest.invariant
