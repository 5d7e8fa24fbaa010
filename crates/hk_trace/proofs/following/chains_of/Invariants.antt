use Rattle.std.proofs.Common.{◌≡◌, ◌++◌, map}
use Rattle.std.specs.Prelude.{drop}
use Rattle.hk_trace.specs.Uses.{chain_found}
use Rattle.hk_trace.proofs.following.chains_of.Given as goal

abbrev pub invariant-loop-one : goal.invariant-loop-one
invariant-loop-one l = l.all.items ++ map (chain_found l.writings) (drop l.one-index l.used) ≡ map (chain_found l.writings) l.used
