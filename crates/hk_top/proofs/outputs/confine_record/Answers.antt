use Rattle.std.proofs.Common.{Ok, Err, Result, arith, ap, ◌∙◌, inl, inr, refl}
use Rattle.hk_model.specs.declared.kernel.NoMemory.{NoMemory}
use Rattle.hk_format.specs.Audits.{audited, events}
use Rattle.hk_text.proofs.LineCount.{lines_few}
use Rattle.hk_top.specs.Outputs.{TellsChanges}
use Rattle.hk_top.specs.declared.served.DueText.{DueText}
use Rattle.hk_top.specs.declared.words.Command.TheVariants as command
use Rattle.hk_top.proofs.AnswerLemmas.{changes_due, record_refused_due}
use Rattle.hk_top.proofs.FollowedRuns.{followed_due}
use Rattle.hk_top.proofs.outputs.confine_record.Goals as goal

pub open-requires : goal.open-requires
open-requires c = omega (arith, lines_few c.args.bytes.now, c.requires.few)

pub returns-in-Some : goal.returns-in-Some
returns-in-Some c =
    let found = rw c.in-Some.is at c.in_ok-due-in-Ok.ensures in
    let due : Result DueText NoMemory = Ok c.in-Some.due in
    changes_due c.args.bytes.now (audited c.in-Ok.world (events found.lines found.end)) due (found.followed.told c.args.bytes.now c.in-Ok.ensures.ok)
    (followed_due c.in-Ok.world c.in-Ok.reader found.lines found.end TellsChanges due found.followed (found.status_is, found.tells))

pub returns-in-Err-Refused : goal.returns-in-Err-Refused
returns-in-Err-Refused c =
    record_refused_due command.Confine c.args.bytes.now c.in-Err-Refused.line c.in-Err-Refused.cause c.refused.result (inr (inl refl))
    (c.open.ensures.refused c.in-Err-Refused.line c.in-Err-Refused.cause (c.in-Err-Refused.is ∙ ap (λ e. Err e) c.in-Err-Refused.field-0-is)) c.refused.ensures
