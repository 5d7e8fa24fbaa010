use Rattle.hk_gen.proofs.WholeRuns.{generated_runs_end}
use Rattle.hk_gen.proofs.whole_runs_end_law.Goals as goal

pub returns : goal.returns
returns c = generated_runs_end c.args.count c.requires.few
