use Rattle.std.proofs.Common.{◌≡◌, ◌<◌, true, length, IfSome, subst}
use Rattle.hk_model.specs.State.{State, process}
use Rattle.hk_model.specs.Processors.{is_running}
use Rattle.hk_table.proofs.Runs.{runner_known, runner_runs}
use Rattle.hk_table.proofs.parts.Parts.runner.Goals as goal

pub returns-clause-known : goal.returns-clause-known
returns-clause-known c =
    subst (λ (s : State). IfSome c.runner.result (λ proc. proc.0 < length s.processes)) c.self.view_is
    (runner_known c.self.inside.processes c.args.cpu c.runner.result c.runner.ensures)

pub returns-clause-runs : goal.returns-clause-runs
returns-clause-runs c =
    subst (λ (s : State). IfSome c.runner.result (λ proc. is_running (process s proc).run ≡ true)) c.self.view_is
    (runner_runs c.self.inside.processes c.args.cpu c.runner.result c.runner.ensures)
