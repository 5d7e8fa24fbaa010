-- What the process waits at is written over.
use Rattle.std.proofs.Common.{◌∙◌, ◌<◌, sym, subst, List, length}
use Rattle.hk_model.specs.declared.objects.Process.{Process}
use Rattle.hk_model.specs.Keeping.{run_names}
use Rattle.hk_plain.specs.Counts.{Moved, waiting_names}
use Rattle.hk_plain.proofs.CountedParts.{run_moved, replaced}
use Rattle.hk_plain.proofs.counted.set_run.Goals as goal

pub returns-then-at-as_slice-clause-counted : goal.returns-then-at-as_slice-clause-counted
returns-then-at-as_slice-clause-counted c =
    subst (λ (ps : List Process). Moved c.args.counts.now c.release_run.new.self (waiting_names ps) (waiting_names c.args.processes.now)) (sym c.set_run.ensures)
    (run_moved c.args.counts.now c.release_run.new.self c.args.processes.now c.as_slice-then-at-as_slice.result.now c.args.proc c.args.run _
    c.as_slice-then-at-as_slice.ensures.value (subst (λ (ps : List Process). c.args.proc.0 < length ps)
    (c.as_slice.ensures.value ∙ sym c.as_slice-then-at-as_slice.ensures.value) c.if-at-as_slice.true)
    (replaced c.args.counts.now c.hold_run.new.self c.release_run.new.self (run_names c.args.run) _ c.hold_run.ensures c.release_run.ensures))
