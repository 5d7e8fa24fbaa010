use Rattle.std.proofs.Common.{◌≡◌, take}
use Rattle.hk_model.specs.Opening.{proc_numbers}
use Rattle.hk_plain.proofs.opening.proc_numbers.Given as goal

abbrev pub invariant-loop-n : goal.invariant-loop-n
invariant-loop-n l = l.ready.items ≡ proc_numbers 0 (take l.n l.tasks)
