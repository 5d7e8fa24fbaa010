use Rattle.std.proofs.Common.{arith, ◌-◌, length, map, ◌∷◌, []}
use Rattle.std.proofs.lemmas.List.{length-append}
use Rattle.std.proofs.lemmas.Result.{err_from_is_err_and}
use Rattle.hk_script.specs.Lines.{rest}
use Rattle.hk_script.proofs.Lists.{slots_bad, fails_same, call_turn}
use Rattle.hk_script.proofs.line.Line.call.Goals as goal

pub returns-in_err-next : goal.returns-in_err-next
returns-in_err-next c =
    let p = err_from_is_err_and c.from_residual-in_err-next.result c.from_residual-in_err-next.ensures.1 in
    rw (p.1, p.2) (fails_same _ _ _ (slots_bad c.in_ok-proc.proc (map (λ s. s.0) c.loop-self.args) c.loop-self.into.0 (8 - length c.loop-self.args) _ (rest c.loop-self.self)
    (grind (arith, c.is_read.ensures, c.loop-self-test.true)) c.in_err-next.ensures) c.loop-self.invariant.read)

pub loop-self-preserved : goal.loop-self-preserved
loop-self-preserved c = record {
  few = rw c.in_ok-push.ensures.ok (omega (arith, length-append c.loop-self.args (c.loop-self.into ∷ []), c.loop-self.invariant.few, c.if-len-eq8.false, c.len.ensures));
  read =
      rw c.in_ok-push.ensures.ok (call_turn c.in_ok-proc.proc c.loop-self.args c.loop-self.into c.in_ok-next.next (rest c.loop-self.self) (rest c.slot-in-loop-self.new.self) _
      (omega (arith, c.loop-self.invariant.few, c.if-len-eq8.false, c.len.ensures)) c.in_ok-next.ensures c.loop-self.invariant.read);
}
