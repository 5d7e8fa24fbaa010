use Rattle.std.proofs.Common.{◌∙◌, sym}
use Rattle.hk_table.proofs.FrameMoves.{depth_is}
use Rattle.hk_table.proofs.parts.Parts.depth.Goals as goal

pub returns : goal.returns
returns c = rw (← c.self.view_is) (c.depth.ensures.value ∙ sym (depth_is c.self.inside.stacks.stacks c.self.inside.stacks.next c.args.proc.0 c.depth.ensures.numbered))
