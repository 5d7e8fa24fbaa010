use Rattle.std.proofs.Common.{Err, IfOk, List, subst, arith, ap, ◌≡◌, ◌∙◌, inl, inr, refl}
use Rattle.hk_format.specs.Audits.{audited, events}
use Rattle.hk_text.proofs.LineCount.{lines_few}
use Rattle.hk_model.specs.declared.lines.Line.{Line}
use Rattle.hk_top.specs.Outputs.{TellsChains}
use Rattle.hk_top.specs.declared.words.Command.TheVariants as command
use Rattle.hk_top.proofs.AnswerLemmas.{chains_due, record_refused_due}
use Rattle.hk_top.proofs.FollowedRuns.{followed_due}
use Rattle.hk_top.proofs.outputs.trace_record.Goals as goal

pub open-requires : goal.open-requires
open-requires c = omega (arith, lines_few c.args.bytes.now, c.requires.few)

pub returns-in-Some : goal.returns-in-Some
returns-in-Some c =
    let found = rw c.in-Some.is at c.in_ok-lines-in-Ok.ensures in
    chains_due c.args.bytes.now (audited c.in-Ok.world (events c.in-Some.lines found.0)) c.args.line c.chains.result c.requires.line
    (found.1.told c.args.bytes.now c.in-Ok.ensures.ok)
    (followed_due c.in-Ok.world c.in-Ok.reader c.in-Some.lines found.0 (TellsChains c.args.line) c.chains.result found.1
    (subst (λ (lines : List Line). IfOk c.chains.result (λ due. (due.status ≡ 0) × TellsChains c.args.line c.in-Ok.world lines due.text)) c.as_slice.ensures c.chains.ensures))

pub returns-in-Err-Refused : goal.returns-in-Err-Refused
returns-in-Err-Refused c =
    record_refused_due (command.Trace c.args.line) c.args.bytes.now c.in-Err-Refused.line c.in-Err-Refused.cause c.refused.result
    (inr (inr (inl (c.args.line, (refl, c.requires.line)))))
    (c.open.ensures.refused c.in-Err-Refused.line c.in-Err-Refused.cause (c.in-Err-Refused.is ∙ ap (λ e. Err e) c.in-Err-Refused.field-0-is)) c.refused.ensures
