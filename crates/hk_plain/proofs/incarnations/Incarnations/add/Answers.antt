-- The stack of the process has one more number, or what was pushed on it has gone again.
use Rattle.std.proofs.Common.{◌∙◌, ◌≡◌, ap, sym, refl, List, length, take, ◌-◌}
use Rattle.std.specs.BTreeMap.{insert_entry}
use Rattle.hk_model.specs.declared.names.Inc.{Inc}
use Rattle.hk_model.specs.declared.names.Proc.{Proc}
use Rattle.hk_model.specs.State.{inc_cmp}
use Rattle.hk_plain.specs.Stacks.{stack}
use Rattle.hk_plain.proofs.StackLemmas.{stacked_added, stacked_again, stack_written, on_err, on_ok}
use Rattle.hk_plain.proofs.incarnations.Incarnations.add.Goals as goal

pub invariant_of-self-then-is_err : goal.invariant_of-self-then-is_err
invariant_of-self-then-is_err c =
    let same : c.insert.new.live.entries ≡ c.self.inside.live.entries = on_err c.insert.result _ (sym c.if-is_err.ensures.value) c.insert.ensures.err in
    let pushed : List (Proc × List Inc) = c.push.new.self in
    let proc : Proc = c.args.new.proc in
    rw same (stacked_again c.self.inside.live.entries c.self.inside.stacks pushed c.pop.new.self c.self.inside.next proc c.self.invariant c.in_ok-push.ensures.ok (λ q.
    ap (λ (after : List (Proc × List Inc)). stack after q) c.pop.ensures
    ∙ stack_written pushed proc (take (length (stack pushed proc) - 1) (stack pushed proc)) (λ (xs : List Inc). take (length xs - 1) xs) (λ missing. refl) refl q))

pub invariant_of-self-2 : goal.invariant_of-self-2
invariant_of-self-2 c =
    let more : c.insert.new.live.entries ≡ insert_entry inc_cmp c.self.inside.live.entries c.self.inside.next c.args.new =
    on_ok c.insert.result _ (sym c.if-is_err.ensures.value) c.insert.ensures.ok in
    rw more (stacked_added c.self.inside.live.entries c.self.inside.stacks c.push.new.self c.self.inside.next c.args.new c.self.invariant c.in_ok-push.ensures.ok)
