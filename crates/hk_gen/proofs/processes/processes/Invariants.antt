use Rattle.std.proofs.Common.{◌≡◌}
use Rattle.hk_model.specs.Generated.{processes_from}
use Rattle.hk_gen.proofs.processes.processes.Given as goal

-- so many processes stand there
abbrev pub invariant-loop-number : goal.invariant-loop-number
invariant-loop-number l = l.tasks ≡ processes_from 0 l.number
