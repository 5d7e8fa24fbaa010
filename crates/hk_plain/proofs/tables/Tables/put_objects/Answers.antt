-- What was put back goes again.
use Rattle.std.proofs.Common.{◌≡◌, ◌+◌, ◌-◌, sym, subst, length, take, drop}
use Rattle.hk_model.specs.State.{State}
use Rattle.hk_plain.specs.Restoring.{objects_without}
use Rattle.hk_plain.proofs.StackLemmas.{on_err}
use Rattle.hk_plain.proofs.UndoLemmas.{taken_again}
use Rattle.hk_plain.proofs.tables.Tables.put_objects.Goals as goal

pub returns-then-is_err-clause-err : goal.returns-then-is_err-clause-err
returns-then-is_err-clause-err c =
    let same : c.put_object.new.self ≡ c.loop-at.self = on_err c.put_object.result _ (sym c.if-is_err.ensures.value) c.put_object.ensures.err in
    taken_again c.args.self.now c.loop-at.self c.take_objects.new.self c.args.gone.now c.loop-at.at c.loop-at-test.true c.requires c.loop-at.invariant
    (subst (λ (t : State). c.take_objects.new.self ≡ record t {
      objects = objects_without (take (length c.args.gone.now - (c.loop-at.at - 1 + 1)) (drop (c.loop-at.at - 1 + 1) c.args.gone.now)) t.objects;
    }) same c.take_objects.ensures)
