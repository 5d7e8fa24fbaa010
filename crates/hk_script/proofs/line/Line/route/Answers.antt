use Rattle.hk_script.proofs.FormsRead.{path_line}
use Rattle.hk_script.proofs.line.Line.route.Goals as goal

pub returns-in-Path : goal.returns-in-Path
returns-in-Path c =
    path_line c.args.self.now.source.now c.in_ok-piece.piece _ _ c.bytes.result.now c.path.result c.in_ok-piece.ensures.next c.in-Path.is
    (rw c.in_ok-piece.ensures.source at c.bytes.ensures) c.in_ok-piece.ensures.spelled c.path.ensures
