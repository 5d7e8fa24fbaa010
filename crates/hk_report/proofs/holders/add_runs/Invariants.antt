-- The runs to come are left.
use Rattle.std.proofs.Common.{◌≡◌, ◌++◌}
use Rattle.std.specs.Prelude.{drop, filter}
use Rattle.hk_model.specs.declared.names.Name.{Name}
use Rattle.hk_report.specs.Holders.{held_at, holds, stretches}
use Rattle.hk_report.proofs.holders.add_runs.Given as goal

abbrev pub invariant-loop-end : goal.invariant-loop-end
invariant-loop-end l =
    (name : Name) → held_at l.all.items name ++ filter (holds name) (stretches l.by l.spans l.first (drop l.end-index l.ends))
    ≡ held_at l.initial.all.items name ++ filter (holds name) (stretches l.by l.spans 0 l.ends)
