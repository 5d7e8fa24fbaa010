use Rattle.std.proofs.Common.{◌≡◌, ◌+◌, ◌++◌}
use Rattle.std.specs.Prelude.{drop}
use Rattle.hk_trace.specs.Uses.{uses_of}
use Rattle.hk_trace.proofs.using.add_uses.Given as goal

abbrev pub invariant-loop-index : goal.invariant-loop-index
invariant-loop-index l =
    l.all.items ++ uses_of l.call l.reply l.order (l.first + l.index) (drop l.index l.held)
    ≡ l.initial.all.items ++ uses_of l.call l.reply l.order l.first l.held
