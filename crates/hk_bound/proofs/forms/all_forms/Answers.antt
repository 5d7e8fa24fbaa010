use Rattle.std.proofs.Common.{◌≡◌, ℕ, List, Some, subst, arith}
use Rattle.std.specs.Prelude.{slice_get}
use Rattle.hk_model.specs.declared.world.Task.{Task}
use Rattle.hk_bound.specs.Forms.{HaveEntryForms}
use Rattle.hk_bound.proofs.EachLemmas.{entry_forms_stay, object_forms_stay, objects_more, each_read, each_all, each_weaker}
use Rattle.hk_bound.proofs.forms.all_forms.Goals as goal

pub loop-name-init : goal.loop-name-init
loop-name-init c = λ name h. absurd (omega (arith, h))

pub loop-name-preserved : goal.loop-name-preserved
loop-name-preserved c =
    let e = c.in_ok-add_object.ensures {u = tt} in
    objects_more c.args.world.now c.loop-name.forms.items c.add_object.new.forms.items c.loop-name.name e.keeps c.loop-name.invariant e.holds

pub loop-task-preserved : goal.loop-task-preserved
loop-task-preserved c =
    let i = c.loop-task.invariant in
    let e = c.in_ok-add_entries.ensures {u = tt} in
    record {
      objects = λ name h. object_forms_stay c.args.world.now c.loop-task.forms.items c.add_entries.new.forms.items name e.keeps (i.objects name h);
      slots =
          each_read (λ (task : Task). HaveEntryForms c.add_entries.new.forms.items task.slots) c.tasks-task-items.result.now c.loop-task.task-index c.task-item.result
          (each_weaker (λ (task : Task). HaveEntryForms c.loop-task.forms.items task.slots) (λ (task : Task). HaveEntryForms c.add_entries.new.forms.items task.slots)
          c.tasks-task-items.result.now c.loop-task.task-index
          (λ task h. entry_forms_stay c.loop-task.forms.items c.add_entries.new.forms.items task.slots e.keeps h) i.slots)
          c.loop-task-test.true c.task-item.is
          (subst (HaveEntryForms c.add_entries.new.forms.items) c.as_slice.ensures.value e.holds);
    }

pub returns : goal.returns
returns c =
    let keeps = c.put_in_order.ensures.keeps in
    record {
      sorted = c.put_in_order.ensures.sorted;
      objects = λ name h. object_forms_stay c.args.world.now c.loop-task.forms.items c.put_in_order.new.forms.items name keeps (c.loop-task.invariant.objects name h);
      slots = subst (λ (ts : List Task). (k : ℕ) (task : Task) → slice_get ts k ≡ Some task → HaveEntryForms c.put_in_order.new.forms.items task.slots) c.tasks-task-items.ensures.value
          (λ k task at. entry_forms_stay c.loop-task.forms.items c.put_in_order.new.forms.items task.slots keeps
          (each_all (λ (task : Task). HaveEntryForms c.loop-task.forms.items task.slots) c.tasks-task-items.result.now c.loop-task.task-index
          c.loop-task.invariant.slots c.loop-task-test.false k task at));
    }
