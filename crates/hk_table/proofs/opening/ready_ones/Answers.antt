-- Ready processes do not run.
use Rattle.std.proofs.Common.{◌∙◌, ap, take, List}
use Rattle.std.specs.List.{list_any}
use Rattle.hk_model.specs.declared.objects.Process.{Process}
use Rattle.hk_model.specs.Processors.{is_running}
use Rattle.hk_table.proofs.Opens.{none_running}
use Rattle.hk_table.proofs.opening.ready_ones.Goals as goal

pub returns-clause-rest : goal.returns-clause-rest
returns-clause-rest c =
    ap (λ (ps : List Process). list_any (λ (p : Process). is_running p.run) ps) c.loop-n.invariant.state
    ∙ none_running 0 (take c.loop-n.n c.args.tasks.now)
