use Rattle.std.proofs.Common.{◌<◌, ℕ}
use Rattle.hk_model.specs.declared.world.Task.{Task}
use Rattle.hk_bound.specs.Each.{EachBelow}
use Rattle.hk_bound.specs.Columns.{object_count}
use Rattle.hk_bound.specs.Forms.{HaveEntryForms, HaveObjectForms}
use Rattle.hk_bound.proofs.forms.all_forms.Given as goal

abbrev pub invariant-loop-name : goal.invariant-loop-name
invariant-loop-name l = (name : ℕ) → name < l.name → HaveObjectForms l.world l.forms.items name

abbrev pub invariant-loop-task : goal.invariant-loop-task
invariant-loop-task l = record {
  objects : (name : ℕ) → name < object_count l.world → HaveObjectForms l.world l.forms.items name;
  slots : EachBelow l.task-index (λ (task : Task). HaveEntryForms l.forms.items task.slots) l.task-items;
}
