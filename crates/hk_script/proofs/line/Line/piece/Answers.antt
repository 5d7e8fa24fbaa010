use Rattle.hk_format.specs.Pieces.{is_piece}
use Rattle.hk_text.specs.Views.{seen}
use Rattle.hk_script.proofs.PiecesLeft.{passes_at}
use Rattle.hk_script.proofs.line.Line.piece.Goals as goal

pub returns-then-self-clause-spelled : goal.returns-then-self-clause-spelled
returns-then-self-clause-spelled c = passes_at is_piece (seen c.args.self.now.source.now) c.args.self.now.pieces.now c.args.self.now.at _ c.if-self.true c.args.self.now.spelled
