use Rattle.std.proofs.Common.{◌≡◌, drop}
use Rattle.hk_plain.specs.Restoring.{objects_without}
use Rattle.hk_plain.proofs.tables.Tables.take_objects.Given as goal

abbrev pub invariant-loop-name : goal.invariant-loop-name
invariant-loop-name l = record {
  objects : objects_without (drop l.name-index l.gone) l.self.objects ≡ objects_without l.gone l.fn.self.objects;
  rest : l.self ≡ record l.fn.self { objects = l.self.objects };
}
