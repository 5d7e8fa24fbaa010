-- The runs of the lists so far are kept.
use Rattle.std.proofs.Common.{◌≡◌}
use Rattle.std.specs.Prelude.{filter}
use Rattle.hk_model.specs.declared.names.Name.{Name}
use Rattle.hk_report.specs.Holders.{held_at, holds, stretches_below}
use Rattle.hk_report.proofs.holders.holders.Given as goal

abbrev pub invariant-loop-index : goal.invariant-loop-index
invariant-loop-index l = (name : Name) → held_at l.all.items name ≡ filter (holds name) (stretches_below l.histories l.runs l.index)
