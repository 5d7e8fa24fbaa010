use Rattle.std.proofs.Common.{◌≡◌, ◌-◌, ◌≤◌, length, map}
use Rattle.hk_format.specs.declared.syntax.Verb.TheVariants as verb
use Rattle.hk_format.specs.WrittenLines.{instruction_of}
use Rattle.hk_script.specs.Lines.{rest}
use Rattle.hk_script.proofs.Lists.{slots_on}
use Rattle.hk_script.proofs.line.Line.call.Given as goal

abbrev pub invariant-loop-self : goal.invariant-loop-self
invariant-loop-self l = record {
  few : length l.args ≤ 8;
  read : slots_on l.proc (map (λ s. s.0) l.args) l.into.0 (8 - length l.args) (rest l.self) ≡ instruction_of verb.Call (rest l.fn.self);
}

abbrev pub decreases-loop-self : goal.decreases-loop-self
decreases-loop-self l = length (rest l.self)
