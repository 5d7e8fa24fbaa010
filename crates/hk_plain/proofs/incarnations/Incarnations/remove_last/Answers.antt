-- The number was on the stack of the process that the incarnation had.
use Rattle.std.proofs.Common.{◌≡◌, ◌∙◌, ap, sym, refl, List, [], None, subst}
use Rattle.hk_model.specs.declared.objects.Incarnation.{Incarnation}
use Rattle.std.specs.Map.{lookup, remove_entry}
use Rattle.hk_model.specs.State.{same_inc}
use Rattle.hk_plain.specs.Counts.{Moved, slot_names}
use Rattle.hk_plain.specs.Stacks.{LiveOnes}
use Rattle.hk_plain.proofs.CountedParts.{removed_moved, named_slots, by_slots}
use Rattle.hk_model.specs.declared.names.Inc.{Inc}
use Rattle.hk_model.specs.declared.names.Proc.{Proc}
use Rattle.hk_plain.specs.Stacks.{stack, without, IsStacked}
use Rattle.hk_plain.proofs.StackLemmas.{stack_written}
use Rattle.hk_plain.proofs.PlacedLemmas.{stacked_last, stacked_none, none_removed}
use Rattle.hk_plain.proofs.incarnations.Incarnations.remove_last.Goals as goal

pub invariant_of-self : goal.invariant_of-self
invariant_of-self c =
    let last : Inc = record { 0 = c.saturating_sub.result } in
    let none : None ≡ lookup (same_inc last) c.self.inside.live.entries = c.in_default.ensures.value in
    subst (λ (es : List (Inc × Incarnation)). IsStacked es c.self.inside.stacks last) (sym (c.in_default.ensures.entries ∙ none_removed last c.self.inside.live.entries none))
    (stacked_none c.self.inside.live.entries c.self.inside.stacks c.self.inside.next last c.saturating_sub.ensures c.self.invariant (sym none))

pub invariant_of-self-2 : goal.invariant_of-self-2
invariant_of-self-2 c =
    let last : Inc = record { 0 = c.saturating_sub.result } in
    let stacks : List (Proc × List Inc) = c.self.inside.stacks in
    let proc : Proc = c.in-Some.gone.proc in
    subst (λ (es : List (Inc × Incarnation)). IsStacked es c.forget.new.self last) (sym c.in-Some.ensures.entries)
    (stacked_last c.self.inside.live.entries stacks c.forget.new.self c.self.inside.next last c.in-Some.gone c.saturating_sub.ensures c.self.invariant
    (sym c.in-Some.ensures.value) (λ q.
    ap (λ (after : List (Proc × List Inc)). stack after q) c.forget.ensures
    ∙ stack_written stacks proc (without last (stack stacks proc)) (without last) (λ missing. refl) refl q))

pub returns-clause-counted : goal.returns-clause-counted
returns-clause-counted c =
    let last : Inc = record { 0 = c.saturating_sub.result } in
    let released =
    by_slots (λ went. Moved c.args.counts.now c.release_entries.new.self [] went) c.as_slice.result.now c.in-Some.gone.slots c.as_slice.ensures.value c.release_entries.ensures in
    let moved =
    removed_moved named_slots c.args.counts.now c.release_entries.new.self (same_inc last) c.self.inside.live.entries c.in-Some.gone (sym c.in-Some.ensures.value) released in
    subst (λ (es : List (Inc × Incarnation)). Moved c.args.counts.now c.release_entries.new.self (slot_names es) (slot_names c.args.self.now.live)) (sym c.in-Some.ensures.entries)
    (subst (λ (ones : LiveOnes). Moved c.args.counts.now c.release_entries.new.self (slot_names (remove_entry (same_inc last) c.self.inside.live.entries))
    (slot_names ones.live)) c.self.view_is moved)
