use Rattle.std.proofs.Common.{◌≤◌, ℕ}
use Rattle.hk_bound.specs.Taking.{type_of}
use Rattle.hk_bound.specs.Columns.{Finds, name_at}
use Rattle.hk_bound.specs.Forms.{IsStart}
use Rattle.hk_bound.specs.Merges.{MergesFrom}
use Rattle.hk_bound.proofs.gaps.Table.merge_all.Given as goal

abbrev pub invariant-loop-number : goal.invariant-loop-number
invariant-loop-number l = record {
  finds : Finds l.self.world.now l.self.forms.now l.self.rows.now (MergesFrom l.self.world.now l.self.forms.now l.self.rows.now l.process l.name l.by 0 l.place)
      l.fn.gaps.items l.gaps.items;
  start : (start : ℕ) × IsStart l.self.forms.now (type_of l.self.world.now (name_at l.name)).0 start × (start ≤ l.place);
}
