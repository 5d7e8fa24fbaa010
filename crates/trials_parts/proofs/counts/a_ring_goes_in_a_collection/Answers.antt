use Rattle.trials_parts.proofs.Alone.{released_counted}
use Rattle.trials_parts.proofs.counts.a_ring_goes_in_a_collection.Goals as goal

pub settle-requires : goal.settle-requires
settle-requires g c =
    released_counted c.in_ok-table.table.objects.slots c.in_ok-table.table.counts c.release_outside.new.self c.in_ok-table.table.slot.0 c.in_ok-table.table.name
    c.in_ok-table.ensures.stands c.in_ok-table.ensures.in_range c.in_ok-table.ensures.outside c.in_ok-table.ensures.counted c.release_outside.ensures
