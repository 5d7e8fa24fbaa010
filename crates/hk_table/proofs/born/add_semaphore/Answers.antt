use Rattle.hk_table.proofs.ObjectsOpened.{semaphore_added}
use Rattle.hk_table.proofs.born.add_semaphore.Goals as goal

pub returns : goal.returns
returns c =
    semaphore_added c.args.objects.now c.make-slot.result.0 c.new.result c.new-2.result c.args.count c.make-slot.new.objects c.set_count.new.self c.new.ensures c.new-2.ensures
    c.make-slot.ensures.slot c.make-slot.ensures.free c.make-slot.ensures.above c.make-slot.ensures.made c.set_count.ensures
