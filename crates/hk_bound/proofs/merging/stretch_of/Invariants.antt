use Rattle.std.proofs.Common.{◌≡◌, ◌<◌, ◌≤◌, ℕ, Some}
use Rattle.std.specs.Prelude.{slice_get}
use Rattle.hk_rights.specs.Rights.{HasAll}
use Rattle.hk_bound.specs.declared.forms.Form.{Form}
use Rattle.hk_bound.proofs.merging.stretch_of.Given as goal

abbrev pub invariant-loop-place : goal.invariant-loop-place
invariant-loop-place l = record {
  asks : (k : ℕ) (f : Form) → l.start ≤ k → k < l.place → slice_get l.forms k ≡ Some f → HasAll f.check l.check;
  gives : (k : ℕ) (f : Form) → l.start ≤ k → k < l.place → slice_get l.forms k ≡ Some f → HasAll l.give f.give;
}
