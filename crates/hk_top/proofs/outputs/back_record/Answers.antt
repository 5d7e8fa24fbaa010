use Rattle.std.proofs.Common.{Err, arith, ap, ◌∙◌, inr, refl}
use Rattle.hk_text.proofs.LineCount.{lines_few}
use Rattle.hk_top.specs.declared.words.Command.TheVariants as command
use Rattle.hk_top.proofs.AnswerLemmas.{state_due, record_refused_due}
use Rattle.hk_top.proofs.outputs.back_record.Goals as goal

pub read_record-requires : goal.read_record-requires
read_record-requires c = omega (arith, lines_few c.args.bytes.now, c.requires.few)

pub returns-in-Ok : goal.returns-in-Ok
returns-in-Ok c = state_due c.args.bytes.now c.in-Ok.audit c.args.count c.taken_back.result c.requires.count c.in-Ok.ensures.ok c.taken_back.ensures

pub returns-in-Err-Refused : goal.returns-in-Err-Refused
returns-in-Err-Refused c =
    record_refused_due (command.Back c.args.count) c.args.bytes.now c.in-Err-Refused.line c.in-Err-Refused.cause c.refused.result
    (inr (inr (inr (c.args.count, (refl, c.requires.count)))))
    (c.read_record.ensures.refused c.in-Err-Refused.line c.in-Err-Refused.cause (c.in-Err-Refused.is ∙ ap (λ e. Err e) c.in-Err-Refused.field-0-is)) c.refused.ensures
