use Rattle.hk_top.proofs.ServedLemmas.{summary_served}
use Rattle.hk_top.proofs.serving.serve_command.Goals as goal

pub returns-in-Gen : goal.returns-in-Gen
returns-in-Gen g c = summary_served g.M.Made.Kernel.state c.args.bytes.now c.args.command c.in-Gen.count c.run_generated.result c.in-Gen.is c.requires.range c.run_generated.ensures
