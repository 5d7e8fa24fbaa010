-- The incarnation has another slot.
use Rattle.std.proofs.Common.{sym, subst, List}
use Rattle.hk_model.specs.declared.names.Inc.{Inc}
use Rattle.hk_model.specs.declared.objects.Incarnation.{Incarnation}
use Rattle.hk_model.specs.State.{same_inc}
use Rattle.hk_plain.specs.Counts.{Moved, slot_names}
use Rattle.hk_plain.proofs.CountedParts.{written_moved, named_slots}
use Rattle.hk_plain.proofs.incarnations.write.Goals as goal

pub returns-in-Some-clause-counted : goal.returns-in-Some-clause-counted
returns-in-Some-clause-counted c =
    let w : Incarnation = record c.in-Some.incarnation.now { slots = c.replace.new.entries } in
    subst (λ (es : List (Inc × Incarnation)). Moved c.args.counts.now c.replace.new.self (slot_names es) (slot_names c.args.live.now.entries)) (sym (c.get_mut.follows.holds w).0)
    (written_moved named_slots c.args.counts.now c.replace.new.self (same_inc c.args.inc) c.args.live.now.entries c.in-Some.incarnation.now w (sym c.in-Some.ensures.value)
    c.replace.ensures.counted)
