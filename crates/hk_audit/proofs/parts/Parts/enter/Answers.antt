use Rattle.std.proofs.Common.{arith, map, take, ◌-◌}
use Rattle.std.proofs.lemmas.List.{length-set}
use Rattle.std.proofs.lemmas.Result.{err_from_is_err_and}
use Rattle.hk_audit.specs.Left.{rest}
use Rattle.hk_audit.proofs.Slots.{call_late, call_turn}
use Rattle.hk_audit.proofs.parts.Parts.enter.Goals as goal

pub returns-in_err-next : goal.returns-in_err-next
returns-in_err-next c =
    let p = err_from_is_err_and c.from_residual-in_err-next.result c.from_residual-in_err-next.ensures.1 in
    rw (p.1, p.2) (call_late c.in_ok-proc.proc (map (λ s. s.0) (take c.loop-self.count c.loop-self.args)) c.loop-self.into.0 (8 - c.loop-self.count) _ (rest c.loop-self.self) _
    (grind (arith, c.is_read.ensures, c.loop-self-test.true)) (rw c.in_err-next.was at c.slot-in-loop-self.ensures) c.loop-self.invariant.read)

pub loop-self-preserved : goal.loop-self-preserved
loop-self-preserved c = record {
  few = omega (arith, c.loop-self.invariant.few, c.if-count-eq8.false);
  size = rw length-set c.loop-self.invariant.size;
  read =
      call_turn c.in_ok-proc.proc c.loop-self.args c.loop-self.count c.loop-self.into c.in_ok-next.next (rest c.loop-self.self) (rest c.slot-in-loop-self.new.self) _
      (omega (arith, c.loop-self.invariant.few, c.if-count-eq8.false)) c.loop-self.invariant.size
      (rw c.in_ok-next.was at c.slot-in-loop-self.ensures) c.loop-self.invariant.read;
}
