-- What is named at the end is found from what is named here.
use Rattle.std.proofs.Common.{◌≡◌, ◌<◌}
use Rattle.std.specs.Prelude.{drop}
use Rattle.hk_model.specs.Places.{named_by}
use Rattle.hk_report.specs.Named.{named_last}
use Rattle.hk_report.proofs.naming.named_by.Given as goal

pub record Naming (started rest : Type 0) : Type 0 where
  pub some : started
  pub ends : rest

abbrev pub invariant-loop-step : goal.invariant-loop-step
invariant-loop-step l = Naming (0 < l.step) (named_last l.kernel l.name (drop l.step l.path) ≡ named_by l.kernel l.fn.inc l.path)
