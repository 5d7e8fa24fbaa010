use Rattle.std.proofs.Common.{◌≡◌, ◌<◌, ℕ, length}
use Rattle.hk_bound.specs.Columns.{Finds}
use Rattle.hk_bound.specs.Rules.{StoredRule}
use Rattle.hk_bound.specs.Handed.{AllWaysPass, WaysPass}
use Rattle.hk_bound.proofs.handing.stored_gaps.Given as goal

abbrev pub invariant-loop-process : goal.invariant-loop-process
invariant-loop-process l = record {
  count : length l.ways.items ≡ l.process;
  finds : Finds l.table.world.now l.table.forms.now l.table.rows.now
      (AllWaysPass l.table.world.now l.table.forms.now l.table.rows.now l.earlier
      → ((k : ℕ) → k < l.process → StoredRule l.table.world.now l.table.forms.now l.table.rows.now k l.other)
      × WaysPass l.table.world.now l.table.forms.now l.table.rows.now l.other l.ways.items) l.fn.gaps.items l.gaps.items;
}
