use Rattle.hk_bound.specs.Columns.{Finds}
use Rattle.hk_bound.specs.Each.{EachBelow}
use Rattle.hk_bound.specs.Rules.{SlotRule}
use Rattle.hk_bound.proofs.gaps.Table.opening_gaps.Given as goal

abbrev pub invariant-loop-entry : goal.invariant-loop-entry
invariant-loop-entry l =
    Finds l.self.world.now l.self.forms.now l.self.rows.now
    (EachBelow l.entry-index (SlotRule l.self.world.now l.self.forms.now l.self.rows.now l.process) l.entry-items) l.fn.gaps.items l.gaps.items
