use Rattle.std.proofs.Common.{arith}
use Rattle.hk_bound.proofs.Ways.{storing_none, storing_more, storing_all}
use Rattle.hk_bound.proofs.handing.stored_names.Goals as goal

pub loop-name-init : goal.loop-name-init
loop-name-init c = storing_none c.args.table.now.world.now c.args.table.now.rows.now c.args.process c.new-names.result.items c.new-names.ensures.items

pub loop-name-preserved : goal.loop-name-preserved
loop-name-preserved c =
    let test = c.loop-name-test.true in
    let count = c.object_count-name-end.ensures.value in
    storing_more c.args.table.now.world.now c.args.table.now.rows.now c.args.process c.loop-name.name c.loop-name.names.items c.add_stored.new.names.items
    (omega (arith, test, count)) c.loop-name.invariant (c.in_ok-add_stored.ensures {u = tt})

pub returns : goal.returns
returns c =
    let end = c.loop-name-test.false in
    let count = c.object_count-name-end.ensures.value in
    storing_all c.args.table.now.world.now c.args.table.now.rows.now c.args.process c.loop-name.name c.loop-name.names.items (omega (arith, end, count)) c.loop-name.invariant
