use Rattle.std.proofs.Common.{◌≡◌, [], take, length, replicate}
use Rattle.hk_model.specs.Opening.{proc_numbers}
use Rattle.hk_table.proofs.opening.all_queued.Given as goal

abbrev pub invariant-loop-n : goal.invariant-loop-n
invariant-loop-n l = record {
  all : l.queues.processes ≡ length l.tasks;
  ready : l.queues.ready ≡ proc_numbers 0 (take l.n l.tasks);
  waiting : l.queues.waiting ≡ replicate 65536 [];
}
