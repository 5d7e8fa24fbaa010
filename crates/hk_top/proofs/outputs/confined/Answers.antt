use Rattle.hk_top.specs.Outputs.{TellsChanges}
use Rattle.hk_top.proofs.AnswerLemmas.{legal_due, illegal_due}
use Rattle.hk_top.proofs.outputs.confined.Goals as goal

pub returns-in-Legal : goal.returns-in-Legal
returns-in-Legal c =
    legal_due c.args.audit.now TellsChanges c.world-world.result.now c.lines-lines.result.now c.end.result c.in_ok-found.found c.changes.result
    c.world-world.ensures c.lines-lines.ensures c.end.ensures c.in_ok-found.ensures c.in-Legal.is c.laws.ensures c.changes.ensures

pub returns-in-Illegal : goal.returns-in-Illegal
returns-in-Illegal c =
    illegal_due c.args.audit.now TellsChanges c.world-world.result.now c.lines-lines.result.now c.end.result c.in_ok-found.found c.in-Illegal.line
    c.in-Illegal.cause c.told.result
    c.world-world.ensures c.lines-lines.ensures c.end.ensures c.in_ok-found.ensures c.in-Illegal.is c.told.ensures
