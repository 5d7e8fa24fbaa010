use Rattle.std.proofs.Common.{◌≡◌, take, length}
use Rattle.hk_model.specs.Opening.{all_ready}
use Rattle.hk_table.proofs.opening.ready_ones.Given as goal

abbrev pub invariant-loop-n : goal.invariant-loop-n
invariant-loop-n l = record {
  state : l.processes.items ≡ all_ready 0 (take l.n l.tasks);
  many : length l.processes.items ≡ l.n;
}
