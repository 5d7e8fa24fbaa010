use Rattle.std.proofs.Common.{arith, sym, ◌∙◌, ◌<◌}
use Rattle.hk_table.specs.Whole.{whole}
use Rattle.hk_table.proofs.InOrder.{objects_none, objects_more}
use Rattle.hk_table.proofs.shown.all_objects.Goals as goal

pub loop-slot-init : goal.loop-slot-init
loop-slot-init c = record {
  within = omega arith;
  all = objects_none c.args.objects.now.slots c.args.queues.now.waiting 65536 c.new-all.result.entries c.requires.room c.new-all.ensures.empty;
}

pub loop-slot-preserved-in_ok-insert : goal.loop-slot-preserved-in_ok-insert
loop-slot-preserved-in_ok-insert c =
    let some : 0 < c.loop-slot.slot = omega (arith, c.loop-slot-test.true) in
    record {
      within = omega (arith, c.loop-slot.invariant.within);
      all =
          objects_more (whole c.args.objects.now.slots c.args.queues.now.waiting) c.loop-slot.slot c.in-Some.name c.in-Some.object c.loop-slot.all.entries c.insert.new.self.entries
          some (sym c.in-Some.is ∙ c.in_ok-name.ensures) c.loop-slot.invariant.all c.in_ok-insert.ensures.entries;
    }
