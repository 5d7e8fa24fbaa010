use Rattle.hk_gen.proofs.ConfinedCalls.{generated_calls_are_confined}
use Rattle.hk_gen.proofs.confined_calls_law.Goals as goal

pub returns : goal.returns
returns c = generated_calls_are_confined c.args.count
