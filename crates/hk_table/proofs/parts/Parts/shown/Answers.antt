use Rattle.hk_table.proofs.InOrder.{ready_known}
use Rattle.hk_table.proofs.parts.Parts.shown.Goals as goal

pub ready_of-requires : goal.ready_of-requires
ready_of-requires c = ready_known c.self.inside.objects.slots c.self.inside.queues c.self.inside.processes c.self.invariant.joined.queued
