use Rattle.std.proofs.Common.{arith}
use Rattle.hk_table.proofs.ObjectsOpened.{opened_none, kernel_type_added, kernel_type_room}
use Rattle.hk_table.proofs.born.kernel_types.Goals as goal

pub loop-n-init : goal.loop-n-init
loop-n-init c = opened_none c.in_ok-objects.objects c.in_ok-objects.ensures.empty c.in_ok-objects.ensures.next

pub add_plain-requires-clause-room : goal.add_plain-requires-clause-room
add_plain-requires-clause-room c = kernel_type_room c.loop-n.objects c.loop-n._n (omega (arith, c.loop-n-test.true)) c.loop-n.invariant

pub loop-n-preserved : goal.loop-n-preserved
loop-n-preserved c =
    kernel_type_added c.loop-n.objects c.add_plain.new.objects c.loop-n._n c.new.result c.new-in-loop-n.result c.new.ensures c.new-in-loop-n.ensures
    c.loop-n.invariant c.add_plain.ensures
