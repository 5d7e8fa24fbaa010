use Rattle.hk_model.proofs.ChainLines.{chains_fall}
use Rattle.hk_descent.proofs.chain_lines_law.Goals as goal

pub returns : goal.returns
returns c = chains_fall c.args.world.now c.args.lines.now c.requires
