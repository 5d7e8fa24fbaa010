use Rattle.hk_bound.proofs.Copies.{Opening}
use Rattle.hk_bound.proofs.gaps.Table.opened_columns.Given as goal

abbrev pub invariant-loop-entry : goal.invariant-loop-entry
invariant-loop-entry l = Opening l.self.world.now l.self.forms.now l.name l.entry-items l.entry-index l.columns.items
