use Rattle.std.proofs.Common.{◌∷◌, [], ap, sym, subst, option_map}
use Rattle.hk_model.specs.declared.names.Name.{Name}
use Rattle.hk_objects.specs.declared.body.Body.{Body}
use Rattle.hk_objects.specs.Shelf.{Shelf}
use Rattle.hk_reclaim.specs.Naming.{namings}
use Rattle.hk_reclaim.specs.Tally.{Tally, owing, AreCounted}
use Rattle.hk_reclaim.proofs.Keeping.{hold_inside_counted}
use Rattle.trials_parts.proofs.Alone.{ring_counted}
use Rattle.trials_parts.proofs.counts.with_one_ring.Goals as goal

pub returns-clause-counted : goal.returns-clause-counted
returns-clause-counted c =
    subst (λ (o : Shelf). AreCounted o.slots (namings o.slots) c.hold_inside.new.self) (sym c.in-Ok.ensures.ok)
    (ring_counted c.in_ok-table.table.objects.slots c.in_ok-table.table.slot.0 c.in_ok-table.table.name (record { 0 = 2 })
    (record { name = c.in_ok-table.table.name; rights = c.all.result }) c.in_ok-table.ensures.stands c.hold_inside.new.self
    (subst
    (λ (t : Tally). AreCounted c.in_ok-table.table.objects.slots (owing (namings c.in_ok-table.table.objects.slots) (c.in_ok-table.table.name ∷ [])) t)
    (sym c.hold_inside.ensures)
    (hold_inside_counted c.in_ok-table.table.objects.slots (namings c.in_ok-table.table.objects.slots) c.in_ok-table.table.counts c.in_ok-table.table.slot.0
    c.in_ok-table.table.name c.in_ok-table.ensures.apart (ap (option_map (λ (e : Name × Body). e.0)) c.in_ok-table.ensures.stands) c.in_ok-table.ensures.in_range
    c.in_ok-table.ensures.counted)))
