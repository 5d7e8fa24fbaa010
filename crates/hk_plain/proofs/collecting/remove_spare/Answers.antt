-- No names are left.
use Rattle.std.proofs.Common.{◌≡◌, ◌∙◌, List, subst, []}
use Rattle.hk_model.specs.declared.names.Name.{Name}
use Rattle.hk_plain.proofs.SpareGone.{removed_beside, spare_gone}
use Rattle.hk_plain.proofs.collecting.remove_spare.Goals as goal

pub returns-clause-objects : goal.returns-clause-objects
returns-clause-objects c =
    let all_gone : removed_beside c.args.name [] c.loop-other.objects.entries ≡ removed_beside c.args.name c.args.spare.now.keys c.args.objects.now.entries =
    subst (λ (rest : List Name). removed_beside c.args.name rest c.loop-other.objects.entries ≡ removed_beside c.args.name c.args.spare.now.keys c.args.objects.now.entries)
    c.in-None.ensures.steps.0 c.loop-other.invariant.objects in
    all_gone ∙ spare_gone c.args.name c.args.spare.now.keys c.args.objects.now.entries c.len-many.ensures.ordered
