use Rattle.std.proofs.Common.{◌≡◌, List, length, sym, ap, ◌∙◌, subst}
use Rattle.hk_model.specs.declared.names.Name.{Name}
use Rattle.hk_reclaim.specs.Naming.{named_in}
use Rattle.hk_table.specs.Held.{CanRelease, Releases}
use Rattle.hk_table.proofs.WrittenSlots.{written_names}
use Rattle.hk_table.proofs.counting.release_space.Goals as goal

pub release_entries-requires : goal.release_entries-requires
release_entries-requires c =
    let names : named_in c.written.result.now ≡ named_in c.args.space.now =
    ap named_in c.written.ensures.value ∙ written_names c.args.space.now (length c.written.result.now) c.written.ensures.rest in
    subst (λ (ns : List Name). CanRelease c.args.objects.now.slots ns c.args.counts.now) (sym names) c.requires

pub returns : goal.returns
returns c =
    let names : named_in c.written.result.now ≡ named_in c.args.space.now =
    ap named_in c.written.ensures.value ∙ written_names c.args.space.now (length c.written.result.now) c.written.ensures.rest in
    subst (λ (ns : List Name). Releases c.args.objects.now.slots ns c.args.counts.now c.release_entries.new.counts) names c.release_entries.ensures
