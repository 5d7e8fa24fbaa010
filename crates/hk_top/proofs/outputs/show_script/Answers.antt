use Rattle.std.proofs.Common.{Err, arith, inl, refl, ap, ◌∙◌}
use Rattle.hk_text.proofs.LineCount.{lines_few}
use Rattle.hk_top.specs.declared.words.Command.TheVariants as command
use Rattle.hk_top.proofs.AnswerLemmas.{script_due, script_refused_due}
use Rattle.hk_top.proofs.outputs.show_script.Goals as goal

pub read_world-requires : goal.read_world-requires
read_world-requires c = omega (arith, lines_few c.args.bytes.now, c.requires.few)

pub returns-in-Ok : goal.returns-in-Ok
returns-in-Ok c = script_due c.args.bytes.now c.in-Ok.world c.script.result c.in-Ok.ensures.ok c.script.ensures

pub returns-in-Err-Refused : goal.returns-in-Err-Refused
returns-in-Err-Refused c =
    script_refused_due command.Show c.args.bytes.now c.in-Err-Refused.line c.in-Err-Refused.cause c.refused.result (inl refl)
    (c.read_world.ensures.refused c.in-Err-Refused.line c.in-Err-Refused.cause (c.in-Err-Refused.is ∙ ap (λ e. Err e) c.in-Err-Refused.field-0-is)) c.refused.ensures
