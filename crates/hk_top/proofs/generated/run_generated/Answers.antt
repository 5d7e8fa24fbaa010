use Rattle.std.proofs.Common.{subst, sym}
use Rattle.hk_gen.specs.ConfinedCalls.{AllCallsConfined}
use Rattle.hk_top.proofs.generated.run_generated.Goals as goal

-- the world is a generated one
pub run_counted-requires-clause-confined : goal.run_counted-requires-clause-confined
run_counted-requires-clause-confined g c = subst AllCallsConfined (sym c.in_ok-world.ensures) c.confined_calls_law.ensures
