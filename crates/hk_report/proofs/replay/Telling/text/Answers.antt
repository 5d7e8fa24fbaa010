use Rattle.hk_report.proofs.LeftOut.{enough_all}
use Rattle.hk_report.proofs.replay.Telling.text.Goals as goal

-- where each reason is at hand
pub returns-in-Some-clause-enough : goal.returns-in-Some-clause-enough
returns-in-Some-clause-enough c =
    enough_all c.args.self.now.families.calls c.args.self.now.params c.args.self.now.families.changes.items c.args.self.now.histories.items
