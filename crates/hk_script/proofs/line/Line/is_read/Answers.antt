use Rattle.hk_text.specs.Views.{seen}
use Rattle.hk_script.proofs.PiecesLeft.{left_none}
use Rattle.hk_script.proofs.line.Line.is_read.Goals as goal

pub returns : goal.returns
returns c = left_none (seen c.args.self.now.source.now) c.args.self.now.pieces.now c.args.self.now.at
