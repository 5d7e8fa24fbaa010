use Rattle.std.proofs.Common.{refl}
use Rattle.hk_top.specs.declared.words.Command.TheVariants as command
use Rattle.hk_top.proofs.ServedLemmas.{beyond_served, whole_served}
use Rattle.hk_top.proofs.serving.serve_on.Goals as goal

pub returns-then-bytes-gt-SCRIPT_BYTES : goal.returns-then-bytes-gt-SCRIPT_BYTES
returns-then-bytes-gt-SCRIPT_BYTES g c =
    beyond_served g.M.Made.Kernel.state c.args.bytes.now (command.RunOn c.args.cpus) _ c.in_ok-too_long.field-0 c.text_alone.result tt c.requires refl c.if-bytes-gt-SCRIPT_BYTES.true
    c.in_ok-too_long.ensures c.text_alone.ensures.due c.text_alone.ensures.kernel

pub returns : goal.returns
returns g c =
    whole_served g.M.Made.Kernel.state c.args.bytes.now (command.RunOn c.args.cpus) _ c.run_script_on.result tt c.requires refl c.if-bytes-gt-SCRIPT_BYTES.false
    c.run_script_on.ensures
