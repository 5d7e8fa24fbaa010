use Rattle.std.proofs.Common.{◌≡◌, subst, IfOk}
use Rattle.hk_model.specs.declared.verdicts.Verdict.{Verdict}
use Rattle.hk_top.proofs.AnswerLemmas.{legal_due, illegal_due}
use Rattle.hk_format.specs.CauseTexts.{verdict_text}
use Rattle.hk_top.specs.Outputs.{TellsLegal}
use Rattle.hk_top.proofs.outputs.verdict.Goals as goal

pub returns-in-Legal : goal.returns-in-Legal
returns-in-Legal c =
    legal_due c.args.audit.now TellsLegal c.world-world.result.now c.lines-lines.result.now c.end.result c.in_ok-verdict.verdict c.told.result
    c.world-world.ensures c.lines-lines.ensures c.end.ensures c.in_ok-verdict.ensures c.in-Legal.is c.laws.ensures
    (subst (λ (v : Verdict). IfOk c.told.result (λ due. (due.status ≡ 0) × (due.text ≡ verdict_text v))) c.in-Legal.is c.told.ensures)

pub returns-in-Illegal : goal.returns-in-Illegal
returns-in-Illegal c =
    illegal_due c.args.audit.now TellsLegal c.world-world.result.now c.lines-lines.result.now c.end.result c.in_ok-verdict.verdict c.in-Illegal.line
    c.in-Illegal.cause c.told-in-Illegal.result
    c.world-world.ensures c.lines-lines.ensures c.end.ensures c.in_ok-verdict.ensures c.in-Illegal.is c.told-in-Illegal.ensures
