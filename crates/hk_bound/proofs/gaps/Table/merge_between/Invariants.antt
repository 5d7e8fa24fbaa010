use Rattle.hk_bound.specs.Columns.{Finds}
use Rattle.hk_bound.specs.Merges.{MergesFrom}
use Rattle.hk_bound.proofs.gaps.Table.merge_between.Given as goal

abbrev pub invariant-loop-place : goal.invariant-loop-place
invariant-loop-place l =
    Finds l.self.world.now l.self.forms.now l.self.rows.now (MergesFrom l.self.world.now l.self.forms.now l.self.rows.now l.process l.name l.by l.start l.place)
    l.fn.gaps.items l.gaps.items
