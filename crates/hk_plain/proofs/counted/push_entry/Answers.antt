-- The object has one more entry.
use Rattle.std.proofs.Common.{◌≡◌, ◌++◌, ◌∷◌, [], sym, subst, List}
use Rattle.std.specs.List.{flat_map}
use Rattle.hk_model.specs.declared.names.Name.{Name}
use Rattle.hk_model.specs.declared.objects.Object.{Object}
use Rattle.hk_model.specs.declared.entries.Entry.{Entry}
use Rattle.hk_model.specs.State.{same_name}
use Rattle.hk_model.specs.Keeping.{entry_names, object_names}
use Rattle.hk_plain.specs.Counts.{Moved, inner_names}
use Rattle.hk_plain.proofs.StackLemmas.{on_ok}
use Rattle.hk_plain.proofs.CountedParts.{written_moved, beside, push_moved}
use Rattle.hk_plain.proofs.counted.push_entry.Goals as goal

pub returns-else-is_err-clause-counted : goal.returns-else-is_err-clause-counted
returns-else-is_err-clause-counted c =
    let more : c.push_entry.new.entries ≡ c.in-Some.object.now.entries ++ c.args.entry ∷ [] = on_ok c.push_entry.result _ (sym c.if-is_err.ensures.value) c.push_entry.ensures.ok in
    let w : Object = record c.in-Some.object.now { entries = c.push_entry.new.entries } in
    subst (λ (es : List (Name × Object)). Moved c.args.counts.now c.hold_entry.new.self (inner_names es) (inner_names c.args.objects.now.entries))
    (sym (c.get_mut.follows.holds w).0)
    (written_moved object_names c.args.counts.now c.hold_entry.new.self (same_name c.args.name) c.args.objects.now.entries c.in-Some.object.now w (sym c.in-Some.ensures.value)
    (beside c.args.counts.now c.hold_entry.new.self c.in-Some.object.now.of (flat_map entry_names c.push_entry.new.entries) (flat_map entry_names c.in-Some.object.now.entries)
    (subst (λ (es : List Entry). Moved c.args.counts.now c.hold_entry.new.self (flat_map entry_names es) (flat_map entry_names c.in-Some.object.now.entries)) (sym more)
    (push_moved entry_names c.args.counts.now c.hold_entry.new.self c.in-Some.object.now.entries c.args.entry c.hold_entry.ensures))))
