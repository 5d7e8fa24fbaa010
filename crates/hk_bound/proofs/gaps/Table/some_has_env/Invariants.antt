use Rattle.std.proofs.Common.{◌≡◌, ℕ, true}
use Rattle.hk_bound.specs.Each.{EachBelow}
use Rattle.hk_bound.specs.Columns.{cell}
use Rattle.hk_bound.specs.Rules.{env_in}
use Rattle.hk_bound.proofs.gaps.Table.some_has_env.Given as goal

abbrev pub invariant-loop-process : goal.invariant-loop-process
invariant-loop-process l = EachBelow l.process-index (λ (q : ℕ). env_in (cell l.self.rows.now q l.column) ≡ true → ⊥) l.processes
