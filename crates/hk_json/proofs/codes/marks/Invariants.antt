use Rattle.std.proofs.Common.{◌≡◌, ℕ, ◌+◌, ◌≤◌, false, length, map, take, get_or}
use Rattle.std.specs.List.{list_any}
use Rattle.serde_json.specs.View.{view}
use Rattle.hk_json.specs.Scripts.{goes_to}
use Rattle.hk_json.proofs.codes.marks.Given as goal

abbrev pub invariant-loop-step : goal.invariant-loop-step
invariant-loop-step l = record {
  len : length l.marks.items ≡ length l.steps + 1;
  marked : (n : ℕ) → n ≤ length l.steps → get_or l.marks.items n false ≡ list_any (goes_to n) (map view (take l.step-index l.steps));
}
