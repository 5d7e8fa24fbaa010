use Rattle.std.proofs.Common.{◌≡◌, ◌++◌, drop, map, string_bytes}
use Rattle.serde_json.specs.View.{view}
use Rattle.hk_json.specs.Scripts.{steps_said}
use Rattle.hk_json.proofs.codes.write_steps.Given as goal

abbrev pub invariant-loop-place : goal.invariant-loop-place
invariant-loop-place l =
    string_bytes l.out ++ steps_said (map view l.steps) l.place (map view (drop l.place l.steps))
    ≡ string_bytes l.initial.out ++ steps_said (map view l.steps) 0 (map view l.steps)
