-- The place of the processor has the process that runs on it.
use Rattle.std.proofs.Common.{◌∙◌, ap, List}
use Rattle.hk_model.specs.declared.objects.Process.{Process}
use Rattle.hk_model.specs.Processors.{runner_from}
use Rattle.hk_running.proofs.RunnerLemmas.{runner_is}
use Rattle.hk_running.proofs.processes.Processes.runner.Goals as goal

pub returns : goal.returns
returns c =
    c.place_of.ensures ∙ runner_is c.self.inside.all.items c.self.inside.places c.args.cpu c.self.invariant.placed
    ∙ ap (λ (ps : List Process). runner_from ps c.args.cpu 0) c.self.view_is
