-- It runs there already.
use Rattle.hk_plain.proofs.UndoLemmas.{runs_on}
use Rattle.hk_plain.proofs.tables.Tables.run_on.Goals as goal

pub returns-else-is_none : goal.returns-else-is_none
returns-else-is_none c =
    runs_on c.args.self.now c.args.proc c.args.cpu c.runner.result c.is_none.result c.requires c.runner.ensures c.is_none.ensures c.if-is_none.false
