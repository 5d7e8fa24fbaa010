use Rattle.std.proofs.Common.{◌≡◌, true}
use Rattle.std.specs.List.{AllByRecursion}
use Rattle.hk_model.specs.declared.names.Name.{Name}
use Rattle.hk_model.specs.declared.objects.Object.{Object}
use Rattle.hk_model.specs.Keeping.{are_supporting, stands}
use Rattle.hk_plain.proofs.tables.Tables.first_lost.Given as goal

-- where those that are left stay, all do; and they stand
abbrev pub invariant-loop-name : goal.invariant-loop-name
invariant-loop-name l = record {
  rest : AllByRecursion (λ (e : Name × Object). are_supporting l.self l.self.objects e.0 ≡ true) l.name-iterator
      → AllByRecursion (λ (e : Name × Object). are_supporting l.self l.self.objects e.0 ≡ true) l.self.objects;
  stand : AllByRecursion (λ (e : Name × Object). stands l.self e.0 ≡ true) l.name-iterator;
}
