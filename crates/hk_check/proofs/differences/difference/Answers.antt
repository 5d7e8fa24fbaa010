use Rattle.std.proofs.Common.{◌≡◌, sym, subst}
use Rattle.std.specs.Prelude.{Option, IfSome, IfNone, Some}
use Rattle.hk_model.specs.declared.verdicts.Misstep.{Misstep}
use Rattle.hk_model.specs.Verdicts.{Differs}
use Rattle.hk_check.proofs.Replays.{cause_differs, no_cause}
use Rattle.hk_check.proofs.differences.difference.Goals as goal

pub returns-clause-some : goal.returns-clause-some
returns-clause-some c =
    subst (λ (o : Option Misstep). IfSome o (λ cause. Differs (Some c.args.step.now) c.args.line.now cause)) (sym c.first_cause.ensures)
    (cause_differs c.args.step.now c.args.line.now c.is_by_same-by.result c.is_same_event-event.result c.is_same_reply-reply.result c.is_by_same-by.ensures
    c.is_same_event-event.ensures c.is_same_reply-reply.ensures)

pub returns-clause-none : goal.returns-clause-none
returns-clause-none c =
    subst (λ (o : Option Misstep). IfNone o (c.args.step.now ≡ c.args.line.now)) (sym c.first_cause.ensures)
    (no_cause c.args.step.now c.args.line.now c.is_by_same-by.result c.is_same_event-event.result c.is_same_reply-reply.result c.requires c.is_by_same-by.ensures
    c.is_same_event-event.ensures c.is_same_reply-reply.ensures)
