-- What the object names is held, and what another of its name names is released.
use Rattle.std.proofs.Common.{◌∙◌, sym, subst, List, Some, None}
use Rattle.std.proofs.lemmas.List.{append-nil}
use Rattle.hk_model.specs.declared.names.Name.{Name}
use Rattle.hk_model.specs.declared.objects.Object.{Object}
use Rattle.hk_model.specs.Keeping.{object_names}
use Rattle.hk_plain.specs.Counts.{Moved, inner_names}
use Rattle.hk_plain.proofs.CountedParts.{inserted_moved, replaced, name_order}
use Rattle.hk_plain.proofs.counted.insert.Goals as goal

pub returns-in-Ok-None-clause-counted : goal.returns-in-Ok-None-clause-counted
returns-in-Ok-None-clause-counted c =
    subst (λ (es : List (Name × Object)). Moved c.args.counts.now c.hold_object.new.self (inner_names es) (inner_names c.args.objects.now.entries))
    (sym c.in-Ok-None.ensures.entries)
    (inserted_moved object_names c.args.counts.now c.hold_object.new.self name_order c.args.objects.now.entries c.args.name c.args.new None c.insert.ensures.was_ordered
    (sym c.in-Ok-None.field-0-is ∙ c.in-Ok-None.ensures.old) c.hold_object.ensures)

pub returns-in-Ok-Some-clause-counted : goal.returns-in-Ok-Some-clause-counted
returns-in-Ok-Some-clause-counted c =
    subst (λ (es : List (Name × Object)). Moved c.args.counts.now c.release_object.new.self (inner_names es) (inner_names c.args.objects.now.entries))
    (sym c.in-Ok-Some.ensures.entries)
    (inserted_moved object_names c.args.counts.now c.release_object.new.self name_order c.args.objects.now.entries c.args.name c.args.new (Some c.in-Ok-Some.old)
    c.insert.ensures.was_ordered (sym c.in-Ok-Some.field-0-is ∙ c.in-Ok-Some.ensures.old)
    (subst (λ (went : List Name). Moved c.args.counts.now c.release_object.new.self (object_names c.args.new) went) (sym (append-nil (object_names c.in-Ok-Some.old)))
    (replaced c.args.counts.now c.hold_object.new.self c.release_object.new.self (object_names c.args.new) (object_names c.in-Ok-Some.old) c.hold_object.ensures
    c.release_object.ensures)))
