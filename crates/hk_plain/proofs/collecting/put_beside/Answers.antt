-- Of those that stood only the ones that stay are left.
use Rattle.std.proofs.Common.{◌∙◌, ◌+◌, ◌≤◌, arith, ap, length}
use Rattle.hk_model.specs.declared.names.Name.{Name}
use Rattle.std.proofs.Common.{List}
use Rattle.hk_model.proofs.Keeping.{of_set}
use Rattle.hk_plain.specs.Marking.{is_none_of, stays_beside}
use Rattle.hk_plain.proofs.KeepingLemmas.{put_beside}
use Rattle.hk_plain.proofs.SpareGone.{one_more}
use Rattle.hk_plain.proofs.collecting.put_beside.Goals as goal

pub remove_spare-requires : goal.remove_spare-requires
remove_spare-requires c = λ k.
    let room : length c.args.objects.now.entries + 1 ≤ c.args.removed.now.objects_room = c.requires k in
    let more : length c.insert.new.objects.entries ≤ length c.args.objects.now.entries + 1 =
    rw c.in_ok-insert.ensures.ok (one_more c.args.objects.now.entries c.args.name c.args.object) in omega arith

pub returns-clause-ok : goal.returns-clause-ok
returns-clause-ok c =
    let spare : List Name = c.args.spare.now.keys in
    c.remove_spare.ensures.objects
    ∙ (ap (of_set (stays_beside c.args.name spare)) c.in_ok-insert.ensures.ok
    ∙ put_beside c.args.name c.args.object (is_none_of spare) c.args.objects.now.entries c.in_ok-insert.ensures.was_ordered)
