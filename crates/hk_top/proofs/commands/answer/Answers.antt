use Rattle.std.proofs.Common.{refl, subst, sym}
use Rattle.hk_top.specs.Words.{IsReading}
use Rattle.hk_top.specs.Outputs.{usage}
use Rattle.hk_top.proofs.AnswerLemmas.{said, answered}
use Rattle.hk_top.proofs.Complete.{complete}
use Rattle.hk_top.proofs.commands.answer.Goals as goal

pub returns-in_default-clause-answer : goal.returns-in_default-clause-answer
returns-in_default-clause-answer g c = said (usage c.in_default.ensures refl) c.say_usage.ensures

pub returns-clause-answer : goal.returns-clause-answer
returns-clause-answer g c =
    answered _ g.M.Made.Kernel.state c.in-Some.command c.due_alone-due.result c.say_due.result c.in-Some.ensures.1 c.in-Some.ensures.0 c.due_alone-due.ensures.due c.due_alone-due.ensures.fault
    c.say_due.ensures.said c.say_due.ensures.silent

pub returns-in_default-clause-complete : goal.returns-in_default-clause-complete
returns-in_default-clause-complete g c = complete (returns-in_default-clause-answer g c)

pub returns-clause-complete : goal.returns-clause-complete
returns-clause-complete g c = complete (returns-clause-answer g c)

pub returns-clause-untouched : goal.returns-clause-untouched
returns-clause-untouched g c none = c.due_alone-due.ensures.untouched (λ reads. none (subst IsReading (sym c.in-Some.ensures.0) reads))
