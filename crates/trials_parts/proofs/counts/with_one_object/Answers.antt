use Rattle.std.proofs.Common.{◌≡◌, ◌≢◌, ◌<◌, Some, ap, sym, subst, ◌∙◌, arith, length, set, [], slice_index}
use Rattle.hk_model.specs.declared.names.Name.{Name}
use Rattle.hk_objects.specs.Shelf.{Shelf, new_body}
use Rattle.hk_objects.specs.Slots.{place, AreApart}
use Rattle.hk_reclaim.specs.Naming.{namings}
use Rattle.hk_reclaim.specs.Tally.{Tally, AreCounted}
use Rattle.hk_reclaim.proofs.Keeping.{empty_counted, made_counted}
use Rattle.trials_parts.proofs.Alone.{Slots, none_yet, one_then, low_in, nothing_named, came_from, came_there, came_apart, object_counted}
use Rattle.trials_parts.proofs.counts.with_one_object.Goals as goal

pub hold_outside-requires-clause-few : goal.hold_outside-requires-clause-few
hold_outside-requires-clause-few c =
    let z = none_yet 65536 c.in-Some.slot.0 c.in-Ok-with.counts.total (ap (λ (t : Tally). t.total) c.in-Ok-with.ensures) c.in-Some.ensures.free.0 in omega (arith, z)

module _ (c : goal.After-hold_outside) where
  low : c.in-Some.slot.0 < length c.in-Ok.objects.slots
  low = let a = c.in-Ok.ensures.room in let b = c.in-Some.ensures.free.0 in omega (arith, a, b)

  other : c.in-Ok.objects.next ≢ record { 0 = 2 }
  other e = let a : c.in-Ok.objects.next.0 ≡ 2 = ap (λ (m : Name). m.0) e in let b = c.in-Ok.ensures.next in omega (arith, a, b)

  came : c.make.new.self.slots ≡ set c.in-Ok.objects.slots c.in-Some.slot.0 (Some (c.in-Ok.objects.next, new_body (record { 0 = 2 }) [] []))
  came = came_from c.in-Ok.objects.slots c.in-Some.slot.0 c.in-Ok.objects.next (record { 0 = 2 }) c.in-Ok.ensures.empty low other c.make.new.self.slots c.new.result c.new-2.result
      (ap (λ (o : Shelf). o.slots) c.in-Some.ensures.made) c.new.ensures c.new-2.ensures

  room : c.in-Some.slot.0 < length c.in-Ok-with.counts.total
  room = low_in 65536 c.in-Some.slot.0 c.in-Ok-with.counts.total (ap (λ (t : Tally). t.total) c.in-Ok-with.ensures) c.in-Some.ensures.free.0

pub returns-in-Some-clause-counted : goal.returns-in-Some-clause-counted
returns-in-Some-clause-counted c =
    subst (λ (qs : Slots). AreCounted qs (namings qs) c.hold_outside.new.self) (sym (came c))
    (object_counted c.in-Ok.objects.slots c.in-Some.slot.0 c.in-Ok.objects.next (record { 0 = 2 }) c.in-Ok.ensures.empty (low c) (other c) c.hold_outside.new.self
    (subst
    (λ (t : Tally). AreCounted (set c.in-Ok.objects.slots c.in-Some.slot.0 (Some (c.in-Ok.objects.next, new_body (record { 0 = 2 }) [] []))) (namings c.in-Ok.objects.slots) t)
    (sym c.hold_outside.ensures)
    (made_counted c.in-Ok.objects.slots (namings c.in-Ok.objects.slots) c.in-Ok-with.counts c.in-Some.slot.0 c.in-Ok.objects.next (new_body (record { 0 = 2 }) [] []) (low c)
    (room c) c.in-Some.ensures.free.1 (nothing_named c.in-Ok.objects.slots c.in-Ok.objects.next c.in-Ok.ensures.empty)
    (empty_counted c.in-Ok.objects.slots c.in-Ok-with.counts 65536 (record { 0 = 0 }) c.in-Ok.ensures.empty c.in-Ok-with.ensures))))

pub returns-in-Some-clause-stands : goal.returns-in-Some-clause-stands
returns-in-Some-clause-stands c =
    ap (λ (qs : Slots). place qs c.in-Some.slot.0) (came c)
    ∙ came_there c.in-Ok.objects.slots c.in-Some.slot.0 c.in-Ok.objects.next (record { 0 = 2 }) c.in-Ok.ensures.empty (low c) (other c)
    ∙ ap (λ (m : Name). Some (m, new_body (record { 0 = 2 }) [] [])) (sym c.next_name-name.ensures.name)

pub returns-in-Some-clause-apart : goal.returns-in-Some-clause-apart
returns-in-Some-clause-apart c =
    subst (λ (qs : Slots). AreApart qs) (sym (came c))
    (came_apart c.in-Ok.objects.slots c.in-Some.slot.0 c.in-Ok.objects.next (record { 0 = 2 }) c.in-Ok.ensures.empty (low c) (other c))

pub returns-in-Some-clause-outside : goal.returns-in-Some-clause-outside
returns-in-Some-clause-outside c =
    ap (λ (t : Tally). slice_index t.outside c.in-Some.slot.0) c.hold_outside.ensures
    ∙ one_then 65536 c.in-Some.slot.0 c.in-Ok-with.counts.outside (ap (λ (t : Tally). t.outside) c.in-Ok-with.ensures) c.in-Some.ensures.free.0

pub returns-in-Some-clause-total : goal.returns-in-Some-clause-total
returns-in-Some-clause-total c =
    ap (λ (t : Tally). slice_index t.total c.in-Some.slot.0) c.hold_outside.ensures
    ∙ one_then 65536 c.in-Some.slot.0 c.in-Ok-with.counts.total (ap (λ (t : Tally). t.total) c.in-Ok-with.ensures) c.in-Some.ensures.free.0
