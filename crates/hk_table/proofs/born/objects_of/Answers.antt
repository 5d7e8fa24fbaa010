use Rattle.std.proofs.Common.{arith, ◌<◌, length}
use Rattle.hk_table.proofs.ObjectsOpened.{born_added, born_room}
use Rattle.hk_table.proofs.born.objects_of.Goals as goal

pub add_born-requires-clause-room : goal.add_born-requires-clause-room
add_born-requires-clause-room c =
    born_room c.loop-object.objects c.args.born.now c.loop-object.object-index (omega (arith, c.loop-object-test.true)) c.requires c.loop-object.invariant

pub loop-object-preserved : goal.loop-object-preserved
loop-object-preserved c =
    let there : c.loop-object.object-index < length c.args.born.now = omega (arith, c.loop-object-test.true) in
    born_added c.loop-object.objects c.add_born.new.objects c.args.born.now c.loop-object.object-index c.object-item.result there c.object-item.is
    c.loop-object.invariant c.in_ok-add_born.ensures
