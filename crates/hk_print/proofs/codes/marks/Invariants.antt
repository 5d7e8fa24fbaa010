use Rattle.std.proofs.Common.{◌≡◌, ℕ, ◌+◌, ◌≤◌, false, length, take, get_or}
use Rattle.std.specs.List.{list_any}
use Rattle.hk_format.specs.Canonical.{jumps_to}
use Rattle.hk_print.proofs.codes.marks.Given as goal

abbrev pub invariant-loop-step : goal.invariant-loop-step
invariant-loop-step l = record {
  len : length l.marks.items ≡ length l.steps + 1;
  marked : (n : ℕ) → n ≤ length l.steps → get_or l.marks.items n false ≡ list_any (jumps_to n) (take l.step-index l.steps);
}
