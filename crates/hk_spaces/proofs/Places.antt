-- The frames of a stack, and places behind them.
use Rattle.std.proofs.Common.{◌≡◌, ◌<◌, ◌≤◌, ◌-◌, ◌∙◌, ℕ, List, Option, Some, length, take, set, get_or, sym, ap, arith}
use Rattle.std.specs.Prelude.{slice_get}
use Rattle.std.proofs.Math.Seq.{take-set-lt}
use Rattle.std.proofs.lemmas.List.{length-take-le, get_or-take}
use Rattle.std.proofs.lemmas.Option.{slice_get_read}
use Rattle.hk_model.specs.declared.entries.Entry.{Entry}
use Rattle.hk_spaces.specs.declared.stack.StackFrame.{StackFrame}
use Rattle.hk_spaces.specs.Slots.{with_slot, with_changed, with_top}

-- a slot of the last of the first frames is written in its place
pub written_top : (d : ℕ) (xs : List StackFrame) (f : StackFrame) (slot : ℕ) (entry : Entry) → 0 < d → d ≤ length xs → f ≡ get_or xs (d - 1) f
    → take d (set xs (d - 1) (with_slot f slot entry)) ≡ with_top (take d xs) slot entry
written_top d xs f slot entry some within here =
    let len : length (take d xs) ≡ d = length-take-le d xs within in
    let there : slice_get (take d xs) (d - 1) ≡ Some f =
    slice_get_read (take d xs) d (d - 1) f (sym len) (omega arith) (here ∙ sym (get_or-take d xs (d - 1) f (omega arith))) in
    take-set-lt d xs (d - 1) (with_slot f slot entry) (omega arith)
    ∙ sym (ap (λ (n : ℕ). with_changed (take d xs) (n - 1) (slice_get (take d xs) (n - 1)) slot entry) len
    ∙ ap (λ (g : Option StackFrame). with_changed (take d xs) (d - 1) g slot entry) there)
