use Rattle.std.proofs.Common.{refl}
use Rattle.hk_queues.specs.Queued.{waiters}
use Rattle.hk_table.proofs.InOrder.{nothing_placed, something_placed}
use Rattle.hk_table.proofs.shown.placed_at.Goals as goal

pub returns-in-None : goal.returns-in-None
returns-in-None c = nothing_placed c.args.objects.now.slots c.args.queues.now.waiting c.args.slot c.in-None.ensures.name

pub returns-in_ok-object-in-Some : goal.returns-in_ok-object-in-Some
returns-in_ok-object-in-Some c =
    something_placed c.args.objects.now.slots c.args.queues.now.waiting c.args.slot (waiters c.args.queues.now c.args.slot) c.in-Some.name c.in_ok-object-in-Some.object
    c.in-Some.ensures.name c.in_ok-object-in-Some.ensures refl
