use Rattle.std.proofs.Common.{◌≡◌}
use Rattle.std.specs.List.{flat_map}
use Rattle.hk_model.specs.declared.names.Name.{Name}
use Rattle.hk_model.specs.declared.objects.Object.{Object}
use Rattle.hk_model.specs.Keeping.{object_names, is_among}
use Rattle.hk_plain.proofs.keeping.some_object_names.Given as goal

abbrev pub invariant-loop-key : goal.invariant-loop-key
invariant-loop-key l =
    is_among l.name (flat_map (λ (e : Name × Object). object_names e.1) l._key-iterator) ≡ is_among l.name (flat_map (λ (e : Name × Object). object_names e.1) l.objects.entries)
