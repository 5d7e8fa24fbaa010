use Rattle.std.proofs.Common.{◌≡◌}
use Rattle.std.specs.Prelude.{drop}
use Rattle.hk_report.specs.Hops.{has_begun}
use Rattle.hk_report.proofs.hops.has_begun.Given as goal

-- none so far is the call
abbrev pub invariant-loop-call : goal.invariant-loop-call
invariant-loop-call l = has_begun l.begun (drop l.call-index l.calls) ≡ has_begun l.begun l.calls
