use Rattle.std.proofs.Common.{◌∙◌, ◌<◌, ℕ, length, subst, sym}
use Rattle.hk_model.specs.declared.world.Task.{Task}
use Rattle.hk_bound.specs.Each.{Each}
use Rattle.hk_bound.specs.Columns.{object_count}
use Rattle.hk_bound.specs.Rules.{SlotRule, MadeRule, ObjectRule, OwnRule}
use Rattle.hk_bound.proofs.FindsLemmas.{finds_then, finds_more}
use Rattle.hk_bound.proofs.Sources.{same_some}
use Rattle.hk_bound.proofs.gaps.Table.own_gaps.Goals as goal

pub returns : goal.returns
returns c =
    let w = c.args.self.now.world.now in
    let forms = c.args.self.now.forms.now in
    let rows = c.args.self.now.rows.now in
    finds_more w forms rows
    ((Each (SlotRule w forms rows c.args.process) c.args.task.now.slots × ((maker : ℕ) → maker < length w.tasks → MadeRule w rows c.args.process maker))
    × ((name : ℕ) → name < object_count w → ObjectRule w forms rows c.args.process name))
    (OwnRule w forms rows c.args.process) c.args.gaps.now.items c.objects_gaps.new.gaps.items
    (λ h. record {
      slots = λ task at. subst (λ (t : Task). Each (SlotRule w forms rows c.args.process) t.slots) (same_some (sym c.requires.task ∙ at)) h.0.0;
      made = h.0.1;
      objects = h.1;
    })
    (finds_then w forms rows (Each (SlotRule w forms rows c.args.process) c.args.task.now.slots × ((maker : ℕ) → maker < length w.tasks → MadeRule w rows c.args.process maker))
    ((name : ℕ) → name < object_count w → ObjectRule w forms rows c.args.process name)
    c.args.gaps.now.items c.made_gaps.new.gaps.items c.objects_gaps.new.gaps.items
    (finds_then w forms rows (Each (SlotRule w forms rows c.args.process) c.args.task.now.slots) ((maker : ℕ) → maker < length w.tasks → MadeRule w rows c.args.process maker)
    c.args.gaps.now.items c.opening_gaps.new.gaps.items c.made_gaps.new.gaps.items (c.in_ok-opening_gaps.ensures {u = tt}) (c.in_ok-made_gaps.ensures {u = tt}))
    (c.in_ok-objects_gaps.ensures {u = tt}))
