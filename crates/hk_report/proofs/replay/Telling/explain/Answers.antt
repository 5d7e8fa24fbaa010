use Rattle.hk_report.proofs.LeftOut.{enough_all}
use Rattle.hk_report.proofs.replay.Telling.explain.Goals as goal

-- where there is no change
pub returns-then-is_empty-clause-enough : goal.returns-then-is_empty-clause-enough
returns-then-is_empty-clause-enough c =
    enough_all c.args.self.now.families.calls c.args.self.now.params c.args.self.now.families.changes.items c.args.self.now.histories.items
