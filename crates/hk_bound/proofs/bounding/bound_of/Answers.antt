use Rattle.std.proofs.Common.{arith}
use Rattle.hk_bound.specs.Columns.{proc_at}
use Rattle.hk_bound.proofs.Exact.{listing_none, listing_all}
use Rattle.hk_bound.proofs.bounding.bound_of.Goals as goal

pub loop-name-init : goal.loop-name-init
loop-name-init c = listing_none c.args.world.now (proc_at c.args.process) c.new-names.result.items c.new-names.ensures.items

pub loop-name-preserved : goal.loop-name-preserved
loop-name-preserved c = c.in_ok-list.ensures {u = tt}

pub returns : goal.returns
returns c =
    let end = c.loop-name-test.false in
    let count = c.object_count-name-end.ensures.value in
    listing_all c.args.world.now (proc_at c.args.process) c.loop-name.names.items c.loop-name.name (omega (arith, end, count)) c.loop-name.invariant
