use Rattle.std.proofs.Common.{◌≡◌, drop}
use Rattle.hk_json.specs.Scripts.{behind_last_space}
use Rattle.hk_json.proofs.codes.behind_last_space.Given as goal

abbrev pub invariant-loop-at : goal.invariant-loop-at
invariant-loop-at l = behind_last_space l.behind (drop l.at l.text) ≡ behind_last_space l.text l.text
