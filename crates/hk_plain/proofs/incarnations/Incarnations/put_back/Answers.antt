-- The stack of the process has the number at its place, or it has gone again.
use Rattle.std.proofs.Common.{◌∙◌, ◌≡◌, ◌<◌, ap, sym, refl, subst, List, None}
use Rattle.std.specs.Map.{lookup}
use Rattle.std.specs.BTreeMap.{insert_entry}
use Rattle.hk_model.specs.declared.names.Inc.{Inc}
use Rattle.hk_model.specs.declared.names.Proc.{Proc}
use Rattle.hk_model.specs.State.{inc_cmp, same_inc}
use Rattle.hk_plain.specs.Stacks.{stack, without, LiveOnes}
use Rattle.hk_plain.proofs.StackLemmas.{stack_written, on_err, on_ok}
use Rattle.hk_plain.proofs.PlacedLemmas.{stacked_placed, stacked_unplaced}
use Rattle.hk_plain.proofs.incarnations.Incarnations.put_back.Goals as goal

pub invariant_of-self-then-is_err : goal.invariant_of-self-then-is_err
invariant_of-self-then-is_err c =
    let same : c.insert-2.new.live.entries ≡ c.self.inside.live.entries = on_err c.insert-2.result _ (sym c.if-is_err.ensures.value) c.insert-2.ensures.err in
    let absent : lookup (same_inc c.args.inc) c.self.inside.live.entries ≡ None =
    subst (λ (ones : LiveOnes). lookup (same_inc c.args.inc) ones.live ≡ None) (sym c.self.view_is) c.requires.absent in
    let put : List (Proc × List Inc) = c.insert.new.self in
    let proc : Proc = c.args.old.proc in
    rw same (stacked_unplaced c.self.inside.live.entries c.self.inside.stacks put c.forget.new.self c.self.inside.next c.args.inc proc c.self.invariant absent
    c.in_ok-insert.ensures.ok (λ q.
    ap (λ (after : List (Proc × List Inc)). stack after q) c.forget.ensures
    ∙ stack_written put proc (without c.args.inc (stack put proc)) (without c.args.inc) (λ missing. refl) refl q))

pub invariant_of-self-else-is_err : goal.invariant_of-self-else-is_err
invariant_of-self-else-is_err c =
    let more : c.insert-2.new.live.entries ≡ insert_entry inc_cmp c.self.inside.live.entries c.args.inc c.args.old =
    on_ok c.insert-2.result _ (sym c.if-is_err.ensures.value) c.insert-2.ensures.ok in
    let absent : lookup (same_inc c.args.inc) c.self.inside.live.entries ≡ None =
    subst (λ (ones : LiveOnes). lookup (same_inc c.args.inc) ones.live ≡ None) (sym c.self.view_is) c.requires.absent in
    let below : c.args.inc.0 < c.self.inside.next.0 = subst (λ (ones : LiveOnes). c.args.inc.0 < ones.next.0) (sym c.self.view_is) c.requires.below in
    rw more (stacked_placed c.self.inside.live.entries c.self.inside.stacks c.insert.new.self c.self.inside.next c.args.inc c.args.old c.self.invariant below absent
    c.in_ok-insert.ensures.ok)
