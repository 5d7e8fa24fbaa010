use Rattle.std.proofs.Common.{Err, arith, inr, refl, ap, ◌∙◌}
use Rattle.hk_text.proofs.LineCount.{lines_few}
use Rattle.hk_top.specs.declared.words.Command.TheVariants as command
use Rattle.hk_top.specs.Words.{words_of}
use Rattle.hk_top.proofs.AnswerLemmas.{record_due, refused_served}
use Rattle.hk_top.proofs.processors.run_script_on.Goals as goal

pub read_world-requires : goal.read_world-requires
read_world-requires g c = omega (arith, lines_few c.args.bytes.now, c.requires.few)

pub returns-in_ok-kernel-in-Ok : goal.returns-in_ok-kernel-in-Ok
returns-in_ok-kernel-in-Ok g c =
    record_due g.M.Made.Kernel.state (words_of (command.RunOn c.args.cpus)) c.args.bytes.now c.in-Ok.world c.run_on.result c.in-Ok.ensures.ok c.run_on.ensures

pub returns-in_ok-refused-in-Err-Refused : goal.returns-in_ok-refused-in-Err-Refused
returns-in_ok-refused-in-Err-Refused g c =
    refused_served g.M.Made.Kernel.state (command.RunOn c.args.cpus) c.args.bytes.now c.in-Err-Refused.line c.in-Err-Refused.cause c.in_ok-refused-in-Err-Refused.field-0
    c.text_alone.result (inr (c.args.cpus, (refl, c.requires.cpus)))
    (c.read_world.ensures.refused c.in-Err-Refused.line c.in-Err-Refused.cause (c.in-Err-Refused.is ∙ ap (λ e. Err e) c.in-Err-Refused.field-0-is))
    c.in_ok-refused-in-Err-Refused.ensures c.text_alone.ensures.due c.text_alone.ensures.kernel
