-- What the object names is released.
use Rattle.std.proofs.Common.{sym, subst, List}
use Rattle.std.specs.Map.{lookup}
use Rattle.std.specs.Ordering.{is_eq}
use Rattle.hk_model.specs.declared.names.Name.{Name}
use Rattle.hk_model.specs.declared.objects.Object.{Object}
use Rattle.hk_model.specs.State.{same_name, name_cmp}
use Rattle.hk_model.specs.Keeping.{object_names}
use Rattle.hk_plain.specs.Counts.{Moved, inner_names}
use Rattle.hk_plain.proofs.CountedParts.{removed_moved}
use Rattle.hk_plain.proofs.UndoLemmas.{stood_before}
use Rattle.hk_plain.proofs.restoring.take_out.Goals as goal

pub returns-in-Some-clause-fewer : goal.returns-in-Some-clause-fewer
returns-in-Some-clause-fewer c = λ n o there.
    stood_before (is_eq (name_cmp c.args.name n)) (lookup (same_name n) c.remove.new.self.entries) (lookup (same_name n) c.args.objects.now.entries) o
    (c.in-Some.ensures.updates.0 n) there

pub returns-in-Some-clause-counted : goal.returns-in-Some-clause-counted
returns-in-Some-clause-counted c =
    subst (λ (es : List (Name × Object)). Moved c.args.counts.now c.release_object.new.self (inner_names es) (inner_names c.args.objects.now.entries))
    (sym c.in-Some.ensures.entries)
    (removed_moved object_names c.args.counts.now c.release_object.new.self (same_name c.args.name) c.args.objects.now.entries c.in-Some.gone (sym c.in-Some.ensures.value)
    c.release_object.ensures)
