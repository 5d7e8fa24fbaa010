-- What the slots name is released.
use Rattle.std.proofs.Common.{sym, subst, List, []}
use Rattle.hk_model.specs.declared.names.Inc.{Inc}
use Rattle.hk_model.specs.declared.objects.Incarnation.{Incarnation}
use Rattle.hk_model.specs.State.{same_inc}
use Rattle.hk_plain.specs.Counts.{Moved, slot_names}
use Rattle.hk_plain.proofs.CountedParts.{removed_moved, named_slots, by_slots}
use Rattle.std.specs.Map.{remove_entry}
use Rattle.hk_plain.specs.Removing.{Removal, IncarnationsWent}
use Rattle.hk_plain.proofs.Went.{incarnation_went}
use Rattle.hk_plain.proofs.incarnations.remove_one.Goals as goal

pub returns-in-Some-clause-counted : goal.returns-in-Some-clause-counted
returns-in-Some-clause-counted c =
    subst (λ (es : List (Inc × Incarnation)). Moved c.args.counts.now c.release_entries.new.self (slot_names es) (slot_names c.args.live.now.entries))
    (sym c.in-Some.ensures.entries)
    (removed_moved named_slots c.args.counts.now c.release_entries.new.self (same_inc c.args.inc) c.args.live.now.entries c.in-Some.gone (sym c.in-Some.ensures.value)
    (by_slots (λ went. Moved c.args.counts.now c.release_entries.new.self [] went) c.as_slice.result.now c.in-Some.gone.slots c.as_slice.ensures.value c.release_entries.ensures))

pub returns-in-Some-clause-went : goal.returns-in-Some-clause-went
returns-in-Some-clause-went c =
    subst (λ (es : List (Inc × Incarnation)). IncarnationsWent c.args.live.now.entries es c.args.removed.now c.add_incarnation.new.self) (sym c.in-Some.ensures.entries)
    (subst (λ (r : Removal). IncarnationsWent c.args.live.now.entries (remove_entry (same_inc c.args.inc) c.args.live.now.entries) c.args.removed.now r)
    (sym c.add_incarnation.ensures)
    (incarnation_went c.args.live.now.entries c.args.inc c.in-Some.gone c.args.removed.now c.len-many.ensures.ordered (sym c.in-Some.ensures.value)))
