use Rattle.std.proofs.Common.{arith}
use Rattle.hk_text.proofs.Spans.{lie_before}
use Rattle.hk_text.proofs.text.cut_line.Goals as goal

pub returns-in-None-clause-spans : goal.returns-in-None-clause-spans
returns-in-None-clause-spans c = lie_before _ _ _ c.cut_text.new.pieces.items c.in_ok-cut.ensures.spans (omega (arith, c.in_ok-len.ensures.before))
