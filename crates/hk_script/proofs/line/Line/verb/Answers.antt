use Rattle.hk_script.proofs.FormsRead.{verb_line}
use Rattle.hk_script.proofs.line.Line.verb.Goals as goal

pub returns-in-Some : goal.returns-in-Some
returns-in-Some c =
    verb_line _ c.in_ok-piece.piece _ _ c.bytes.result.now _ c.in_ok-piece.ensures.next c.in-Word.is (rw c.in_ok-piece.ensures.source at c.bytes.ensures) c.in-Some.ensures

pub returns-in-None : goal.returns-in-None
returns-in-None c =
    verb_line _ c.in_ok-piece.piece _ _ c.bytes.result.now _ c.in_ok-piece.ensures.next c.in-Word.is (rw c.in_ok-piece.ensures.source at c.bytes.ensures) c.in-None.ensures
