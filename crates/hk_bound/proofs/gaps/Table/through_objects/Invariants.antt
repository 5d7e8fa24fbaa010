use Rattle.std.specs.Prelude.{IfSome}
use Rattle.hk_bound.specs.Rules.{Passes, HasTakings}
use Rattle.hk_bound.proofs.Through.{First}
use Rattle.hk_bound.proofs.gaps.Table.through_objects.Given as goal

abbrev pub invariant-loop-name : goal.invariant-loop-name
invariant-loop-name l = record {
  passes : IfSome l.by (λ by. Passes l.self.world.now l.self.forms.now l.process l.other by);
  all : HasTakings l.self.world.now l.self.rows.now l.process l.other (First l.self.world.now l.self.forms.now l.self.rows.now l.process l.other l.names l.name-index) l.by;
}
