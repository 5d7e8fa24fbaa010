use Rattle.hk_model.specs.declared.names.Name.{Name}
use Rattle.hk_reclaim.proofs.Keeping.{empty_counted}
use Rattle.trials_parts.proofs.counts.nothing_goes_where_nothing_stands.Goals as goal

pub settle-requires : goal.settle-requires
settle-requires g c =
    let first : Name = record { 0 = 7 } in
    empty_counted c.in-Ok.objects.slots c.in-Ok-with.counts 4 first c.in-Ok.ensures.empty c.in-Ok-with.ensures
