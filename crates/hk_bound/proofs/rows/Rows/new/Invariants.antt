use Rattle.std.proofs.Common.{◌≡◌, replicate, None}
use Rattle.hk_bound.proofs.rows.Rows.new.Given as goal

abbrev pub invariant-loop : goal.invariant-loop
invariant-loop l = l.rows.items ≡ replicate l.counter (replicate l.width None)
