use Rattle.std.proofs.Common.{◌<◌, ◌-◌, ◌∙◌, List, length, take, set, ap, subst, sym, arith}
use Rattle.std.proofs.lemmas.List.{length-take-le}
use Rattle.hk_model.specs.declared.entries.Entry.{Entry}
use Rattle.hk_spaces.specs.declared.stack.StackFrame.{StackFrame}
use Rattle.hk_spaces.specs.Slots.{with_top}
use Rattle.hk_spaces.proofs.Places.{written_top}
use Rattle.hk_spaces.proofs.stack.Stack.set_top.Goals as goal

pub returns : goal.returns
returns c =
    let f = c.index_mut.result.now in
    let xs = c.self.inside.places.items in
    let d = c.self.inside.depth in
    let deep : 0 < length (take d xs) = subst (λ (fs : List StackFrame). 0 < length fs) (sym c.self.view_is) c.requires.some in
    let some : 0 < d = omega (arith, deep, length-take-le d xs c.self.invariant.placed) in
    let frame_now : List Entry → StackFrame = λ es. record f { space = es } in
    ap (λ (es : List Entry). take d (set xs (d - 1) (frame_now es))) c.set.ensures
    ∙ written_top d xs f c.args.slot.0 c.args.entry some c.self.invariant.placed c.index_mut.ensures.value
    ∙ ap (λ (fs : List StackFrame). with_top fs c.args.slot.0 c.args.entry) c.self.view_is
