-- The process waits no more.
use Rattle.std.proofs.Common.{◌∙◌, ◌<◌, sym, subst, List, length}
use Rattle.hk_model.specs.declared.objects.Process.{Process}
use Rattle.hk_model.specs.declared.objects.ProcessState.TheVariants.{Running}
use Rattle.hk_plain.specs.Counts.{Moved, waiting_names}
use Rattle.hk_plain.proofs.CountedParts.{run_moved}
use Rattle.hk_plain.proofs.counted.start.Goals as goal

pub returns-then-at-as_slice-clause-counted : goal.returns-then-at-as_slice-clause-counted
returns-then-at-as_slice-clause-counted c =
    subst (λ (ps : List Process). Moved c.args.counts.now c.release_run.new.self (waiting_names ps) (waiting_names c.args.processes.now)) (sym c.start.ensures)
    (run_moved c.args.counts.now c.release_run.new.self c.args.processes.now c.as_slice-then-at-as_slice.result.now c.args.proc (Running c.args.cpu) _
    c.as_slice-then-at-as_slice.ensures.value (subst (λ (ps : List Process). c.args.proc.0 < length ps)
    (c.as_slice.ensures.value ∙ sym c.as_slice-then-at-as_slice.ensures.value) c.if-at-as_slice.true)
    c.release_run.ensures)
