-- What the object names is released, and it is kept where what goes is kept.
use Rattle.std.proofs.Common.{sym, subst, List}
use Rattle.hk_model.specs.declared.names.Name.{Name}
use Rattle.hk_model.specs.declared.objects.Object.{Object}
use Rattle.std.specs.Map.{remove_entry}
use Rattle.hk_model.specs.State.{same_name}
use Rattle.hk_model.specs.Keeping.{object_names}
use Rattle.hk_plain.specs.Counts.{Moved, inner_names}
use Rattle.hk_plain.proofs.CountedParts.{removed_moved}
use Rattle.hk_plain.specs.Removing.{Removal, ObjectsWent}
use Rattle.hk_plain.proofs.Went.{object_went}
use Rattle.hk_plain.proofs.counted.remove.Goals as goal

pub returns-in-Some-clause-counted : goal.returns-in-Some-clause-counted
returns-in-Some-clause-counted c =
    subst (λ (es : List (Name × Object)). Moved c.args.counts.now c.release_object.new.self (inner_names es) (inner_names c.args.objects.now.entries))
    (sym c.in-Some.ensures.entries)
    (removed_moved object_names c.args.counts.now c.release_object.new.self (same_name c.args.name) c.args.objects.now.entries c.in-Some.gone (sym c.in-Some.ensures.value)
    c.release_object.ensures)

pub returns-in-Some-clause-went : goal.returns-in-Some-clause-went
returns-in-Some-clause-went c =
    subst (λ (es : List (Name × Object)). ObjectsWent c.args.objects.now.entries es c.args.removed.now c.add_object.new.self) (sym c.in-Some.ensures.entries)
    (subst (λ (r : Removal). ObjectsWent c.args.objects.now.entries (remove_entry (same_name c.args.name) c.args.objects.now.entries) c.args.removed.now r)
    (sym c.add_object.ensures)
    (object_went c.args.objects.now.entries c.args.name c.in-Some.gone c.args.removed.now c.len-many.ensures.ordered (sym c.in-Some.ensures.value)))
