-- The object has one entry less.
use Rattle.std.proofs.Common.{sym, subst, List}
use Rattle.std.specs.List.{flat_map}
use Rattle.hk_model.specs.declared.names.Name.{Name}
use Rattle.hk_model.specs.declared.objects.Object.{Object}
use Rattle.hk_model.specs.State.{same_name}
use Rattle.hk_model.specs.Keeping.{entry_names, object_names}
use Rattle.hk_plain.specs.Counts.{Moved, inner_names}
use Rattle.hk_plain.proofs.CountedParts.{written_moved, beside}
use Rattle.hk_plain.proofs.restoring.pop_entry.Goals as goal

pub returns-in-Some-clause-counted : goal.returns-in-Some-clause-counted
returns-in-Some-clause-counted c =
    let w : Object = record c.in-Some.object.now { entries = c.pop_counted.new.entries } in
    subst (λ (es : List (Name × Object)). Moved c.args.counts.now c.pop_counted.new.counts (inner_names es) (inner_names c.args.objects.now.entries))
    (sym (c.get_mut.follows.holds w).0)
    (written_moved object_names c.args.counts.now c.pop_counted.new.counts (same_name c.args.name) c.args.objects.now.entries c.in-Some.object.now w (sym c.in-Some.ensures.value)
    (beside c.args.counts.now c.pop_counted.new.counts c.in-Some.object.now.of (flat_map entry_names c.pop_counted.new.entries) (flat_map entry_names c.in-Some.object.now.entries)
    c.pop_counted.ensures.counted))
