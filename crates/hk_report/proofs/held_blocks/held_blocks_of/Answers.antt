use Rattle.hk_report.specs.Reachable.{moment_at}
use Rattle.hk_report.proofs.HeldBlockLemmas.{held_blocking_all}
use Rattle.hk_report.proofs.held_blocks.held_blocks_of.Goals as goal

pub returns : goal.returns
returns c = held_blocking_all (moment_at c.args.lasts.now) c.args.held.now c.loop-rest.all c.loop-rest.rest.now c.loop-rest.invariant
