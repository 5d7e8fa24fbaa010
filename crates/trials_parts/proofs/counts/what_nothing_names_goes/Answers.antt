use Rattle.std.proofs.Common.{ap, option_map}
use Rattle.hk_model.specs.declared.names.Name.{Name}
use Rattle.hk_objects.specs.declared.body.Body.{Body}
use Rattle.trials_parts.proofs.Alone.{released_counted}
use Rattle.trials_parts.proofs.counts.what_nothing_names_goes.Goals as goal

pub settle-requires : goal.settle-requires
settle-requires g c =
    released_counted c.in_ok-table.table.objects.slots c.in_ok-table.table.counts c.release_outside.new.self c.in_ok-table.table.slot.0 c.in_ok-table.table.name
    (ap (option_map (λ (e : Name × Body). e.0)) c.in_ok-table.ensures.stands) c.in_ok-table.ensures.in_range c.in_ok-table.ensures.outside c.in_ok-table.ensures.counted
    c.release_outside.ensures
