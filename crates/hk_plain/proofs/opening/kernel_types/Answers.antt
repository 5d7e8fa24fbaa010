-- One more kernel type stands at the end.
use Rattle.std.proofs.Common.{sym, subst, List, []}
use Rattle.hk_model.specs.declared.names.Name.{Name}
use Rattle.hk_model.specs.declared.objects.Object.{Object}
use Rattle.hk_plain.specs.Counts.{Moved, inner_names}
use Rattle.hk_plain.proofs.Numbered.{kernel_type_step}
use Rattle.hk_plain.proofs.CountLemmas.{still}
use Rattle.hk_plain.proofs.CountedParts.{through}
use Rattle.hk_plain.proofs.opening.kernel_types.Goals as goal

pub loop-n-init : goal.loop-n-init
loop-n-init c = record {
  objects = c.new-objects.ensures.empty;
  counted = subst (λ (es : List (Name × Object)). Moved c.args.counts.now c.args.counts.now (inner_names es) []) (sym c.new-objects.ensures.empty) (still c.args.counts.now);
}

pub loop-n-preserved : goal.loop-n-preserved
loop-n-preserved c = record {
  objects =
      kernel_type_step c.loop-n.n c.loop-n.objects.entries c.insert.new.objects.entries c.type_object.result c.loop-n.invariant.objects c.type_object.ensures
      c.in_ok-insert.ensures.ok;
  counted =
      through c.args.counts.now c.loop-n.counts c.insert.new.counts [] (inner_names c.loop-n.objects.entries) (inner_names c.insert.new.objects.entries) c.loop-n.invariant.counted
      c.in_ok-insert.ensures.counted;
}
