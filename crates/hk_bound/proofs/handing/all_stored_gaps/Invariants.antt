use Rattle.std.proofs.Common.{◌≡◌, ◌<◌, ℕ, length}
use Rattle.hk_bound.specs.Columns.{Finds}
use Rattle.hk_bound.specs.Rules.{StoredFrom}
use Rattle.hk_bound.specs.Handed.{AllWaysPass}
use Rattle.hk_bound.proofs.handing.all_stored_gaps.Given as goal

abbrev pub invariant-loop-other : goal.invariant-loop-other
invariant-loop-other l = record {
  count : length l.earlier ≡ l.other;
  finds : Finds l.table.world.now l.table.forms.now l.table.rows.now
      (((q : ℕ) → q < l.other → StoredFrom l.table.world.now l.table.forms.now l.table.rows.now q)
      × AllWaysPass l.table.world.now l.table.forms.now l.table.rows.now l.earlier) l.fn.gaps.items l.gaps.items;
}
