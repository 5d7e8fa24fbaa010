-- What was put back goes again.
use Rattle.std.proofs.Common.{◌≡◌, ◌+◌, ◌-◌, ◌≤◌, sym, subst, length, take, drop, arith}
use Rattle.hk_model.specs.State.{State}
use Rattle.hk_plain.specs.Restoring.{incarnations_without}
use Rattle.hk_plain.proofs.StackLemmas.{on_err}
use Rattle.hk_plain.proofs.UndoLemmas.{left_again, next_absent}
use Rattle.hk_plain.proofs.tables.Tables.put_incarnations.Goals as goal

pub put_incarnation-requires-clause-absent : goal.put_incarnation-requires-clause-absent
put_incarnation-requires-clause-absent c =
    let within : c.loop-at.at ≤ length c.args.left.now = omega (arith, c.loop-at.auto.at) in
    next_absent c.args.self.now c.loop-at.self c.args.left.now c.loop-at.at c.index-left-at.result c.loop-at-test.true within c.index-left-at.is c.requires.absent
    c.loop-at.invariant

pub returns-then-is_err-clause-err : goal.returns-then-is_err-clause-err
returns-then-is_err-clause-err c =
    let same : c.put_incarnation.new.self ≡ c.loop-at.self = on_err c.put_incarnation.result _ (sym c.if-is_err.ensures.value) c.put_incarnation.ensures.err in
    left_again c.args.self.now c.loop-at.self c.take_incarnations.new.self c.args.left.now c.loop-at.at c.loop-at-test.true c.requires.absent c.loop-at.invariant
    (subst (λ (t : State). c.take_incarnations.new.self ≡ record t {
      incarnations = incarnations_without (take (length c.args.left.now - (c.loop-at.at - 1 + 1)) (drop (c.loop-at.at - 1 + 1) c.args.left.now)) t.incarnations;
    }) same c.take_incarnations.ensures)
