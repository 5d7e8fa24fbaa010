use Rattle.std.proofs.Common.{◌≡◌}
use Rattle.std.specs.Prelude.{drop}
use Rattle.hk_report.specs.Searches.{direct_param}
use Rattle.hk_report.proofs.searching.direct_param.Given as goal

-- none so far is the object
abbrev pub invariant-loop-index : goal.invariant-loop-index
invariant-loop-index l = direct_param l.wanted l.index (drop l.index l.params) ≡ direct_param l.wanted 0 l.params
