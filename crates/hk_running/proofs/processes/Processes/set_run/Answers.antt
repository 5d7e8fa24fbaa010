-- A process that rests has no place.
use Rattle.std.proofs.Common.{◌∙◌, ap, arith, List}
use Rattle.hk_model.specs.declared.objects.Process.{Process}
use Rattle.hk_running.specs.Runners.{with_run}
use Rattle.hk_running.proofs.RunnerLemmas.{placed_rested, run_written}
use Rattle.hk_running.proofs.processes.Processes.set_run.Goals as goal

pub invariant_of-self : goal.invariant_of-self
invariant_of-self c =
    placed_rested c.self.inside.all.items c.self.inside.places c.free.new.places c.self.inside.live c.recounted-self-inside.result c.args.proc.0
    (record { run = c.args.run; current = c.index_mut.result.now.current }) c.index.result.now c.self.invariant (omega (arith, c.self.inside.all.ok.0)) c.index.ensures
    c.free.ensures.value c.requires c.recounted-self-inside.ensures

pub returns-then-at-len : goal.returns-then-at-len
returns-then-at-len c =
    run_written c.self.inside.all.items c.args.proc c.args.run c.index_mut.result.now (omega (arith, c.self.inside.all.ok.0)) c.index_mut.ensures.value
    ∙ ap (λ (ps : List Process). with_run ps c.args.proc c.args.run) c.self.view_is
