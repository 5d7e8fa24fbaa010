-- The processor ran nothing, and its place has the process.
use Rattle.std.proofs.Common.{◌∙◌, ap, refl, arith, List}
use Rattle.hk_model.specs.declared.objects.Process.{Process}
use Rattle.hk_model.specs.declared.objects.ProcessState.TheVariants.{Running}
use Rattle.hk_model.specs.Processors.{runner_from}
use Rattle.hk_running.specs.Runners.{with_run}
use Rattle.hk_running.proofs.RunnerLemmas.{placed_started, run_written}
use Rattle.hk_running.proofs.processes.Processes.start.Goals as goal

pub invariant_of-self : goal.invariant_of-self
invariant_of-self c =
    placed_started c.self.inside.all.items c.self.inside.places c.free.new.places c.self.inside.live c.recounted-self-inside.result c.args.proc.0
    (record { run = Running c.args.cpu; current = c.index_mut.result.now.current }) c.index.result.now c.args.cpu c.args.proc c.self.invariant
    (omega (arith, c.self.inside.all.ok.0)) c.index.ensures c.free.ensures.value (omega (arith, c.free.ensures.many, c.requires.cpu)) refl refl
    (ap (λ (ps : List Process). runner_from ps c.args.cpu 0) c.self.view_is ∙ c.requires.idle) c.recounted-self-inside.ensures

pub returns-then-at-len : goal.returns-then-at-len
returns-then-at-len c =
    run_written c.self.inside.all.items c.args.proc (Running c.args.cpu) c.index_mut.result.now (omega (arith, c.self.inside.all.ok.0)) c.index_mut.ensures.value
    ∙ ap (λ (ps : List Process). with_run ps c.args.proc (Running c.args.cpu)) c.self.view_is
