use Rattle.std.proofs.Common.{sym, ◌∙◌}
use Rattle.hk_undo.proofs.HaltsMade.{halt_made}
use Rattle.hk_undo.proofs.turning.turn.Goals as goal

pub returns-in_default-clause-made : goal.returns-in_default-clause-made
returns-in_default-clause-made c =
    halt_made c.args.world.now c.args.kernel.now c.args.cpu c.args.context.now c.halted.result c.halted.new.kernel c.halted.new.context (sym c.top.ensures ∙ c.in_default.is)
    c.halted.ensures.what c.halted.ensures.state c.halted.ensures.gone
