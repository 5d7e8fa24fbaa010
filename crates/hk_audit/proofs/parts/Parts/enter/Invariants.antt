use Rattle.std.proofs.Common.{◌≡◌, ◌-◌, ◌≤◌, length, map, take}
use Rattle.hk_format.specs.declared.syntax.Verb.TheVariants as verb
use Rattle.hk_format.specs.LineReading.{call_of}
use Rattle.hk_audit.specs.Left.{rest}
use Rattle.hk_audit.proofs.Slots.{slots_on}
use Rattle.hk_audit.proofs.parts.Parts.enter.Given as goal

abbrev pub invariant-loop-self : goal.invariant-loop-self
invariant-loop-self l = record {
  few : l.count ≤ 8;
  size : length l.args ≡ 8;
  read : slots_on l.proc (map (λ s. s.0) (take l.count l.args)) l.into.0 (8 - l.count) (rest l.self) ≡ call_of verb.Call (rest l.fn.self);
}

abbrev pub decreases-loop-self : goal.decreases-loop-self
decreases-loop-self l = length (rest l.self)
