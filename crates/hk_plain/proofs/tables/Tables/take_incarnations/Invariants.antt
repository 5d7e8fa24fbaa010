use Rattle.std.proofs.Common.{◌≡◌, drop}
use Rattle.hk_plain.specs.Restoring.{incarnations_without}
use Rattle.hk_plain.proofs.tables.Tables.take_incarnations.Given as goal

abbrev pub invariant-loop-inc : goal.invariant-loop-inc
invariant-loop-inc l = record {
  live : incarnations_without (drop l.inc-index l.left) l.self.incarnations ≡ incarnations_without l.left l.fn.self.incarnations;
  rest : l.self ≡ record l.fn.self { incarnations = l.self.incarnations };
}
