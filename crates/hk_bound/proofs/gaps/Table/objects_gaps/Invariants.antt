use Rattle.std.proofs.Common.{◌<◌, ℕ}
use Rattle.hk_bound.specs.Columns.{Finds}
use Rattle.hk_bound.specs.Rules.{ObjectRule}
use Rattle.hk_bound.specs.Merges.{AreSettled}
use Rattle.hk_bound.proofs.gaps.Table.objects_gaps.Given as goal

abbrev pub invariant-loop-name : goal.invariant-loop-name
invariant-loop-name l =
    Finds l.self.world.now l.self.forms.now l.self.rows.now
    (((k : ℕ) → k < l.name → ObjectRule l.self.world.now l.self.forms.now l.self.rows.now l.process k)
    × AreSettled l.self.world.now l.self.forms.now l.self.rows.now l.process l.settled.sets.items) l.fn.gaps.items l.gaps.items
