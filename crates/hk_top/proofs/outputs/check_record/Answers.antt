use Rattle.std.proofs.Common.{Err, arith, ap, ◌∙◌, inl, refl}
use Rattle.hk_format.specs.Audits.{audited, events}
use Rattle.hk_text.proofs.LineCount.{lines_few}
use Rattle.hk_top.specs.Outputs.{TellsLegal}
use Rattle.hk_top.specs.declared.words.Command.TheVariants as command
use Rattle.hk_top.proofs.AnswerLemmas.{record_refused_due, verdict_due}
use Rattle.hk_top.proofs.FollowedRuns.{followed_due}
use Rattle.hk_top.proofs.outputs.check_record.Goals as goal

pub open-requires : goal.open-requires
open-requires c = omega (arith, lines_few c.args.bytes.now, c.requires.few)

pub returns-in-Some : goal.returns-in-Some
returns-in-Some c =
    let found = rw c.in-Some.is at c.in_ok-_end-in-Ok.ensures in
    verdict_due c.args.bytes.now (audited c.in-Ok.world (events found.0 c.in-Some._end)) c.told.result (found.1.told c.args.bytes.now c.in-Ok.ensures.ok)
    (followed_due c.in-Ok.world c.in-Ok.reader found.0 c.in-Some._end TellsLegal c.told.result found.1 c.told.ensures)

pub returns-in-Err-Refused : goal.returns-in-Err-Refused
returns-in-Err-Refused c =
    record_refused_due command.Check c.args.bytes.now c.in-Err-Refused.line c.in-Err-Refused.cause c.refused.result (inl refl)
    (c.open.ensures.refused c.in-Err-Refused.line c.in-Err-Refused.cause (c.in-Err-Refused.is ∙ ap (λ e. Err e) c.in-Err-Refused.field-0-is)) c.refused.ensures
