use Rattle.std.proofs.Common.{◌≡◌, List, length, sym, ap, ◌∙◌, subst}
use Rattle.hk_model.specs.declared.names.Name.{Name}
use Rattle.hk_reclaim.specs.Naming.{named_in}
use Rattle.hk_table.specs.Held.{CanHold, Holds}
use Rattle.hk_table.proofs.WrittenSlots.{written_names}
use Rattle.hk_table.proofs.counting.hold_space.Goals as goal

pub hold_entries-requires : goal.hold_entries-requires
hold_entries-requires c =
    let names : named_in c.written.result.now ≡ named_in c.args.space.now =
    ap named_in c.written.ensures.value ∙ written_names c.args.space.now (length c.written.result.now) c.written.ensures.rest in
    subst (λ (ns : List Name). CanHold c.args.objects.now.slots ns c.args.counts.now) (sym names) c.requires

pub returns : goal.returns
returns c =
    let names : named_in c.written.result.now ≡ named_in c.args.space.now =
    ap named_in c.written.ensures.value ∙ written_names c.args.space.now (length c.written.result.now) c.written.ensures.rest in
    subst (λ (ns : List Name). Holds c.args.objects.now.slots ns c.args.counts.now c.hold_entries.new.counts) names c.hold_entries.ensures
