use Rattle.hk_audit.proofs.FirstWords.{word_first, word_later}
use Rattle.hk_audit.proofs.parts.Parts.what.Goals as goal

pub returns-then-eq : goal.returns-then-eq
returns-then-eq c = word_first c.args.word.now c.as_slice.result.now _ c.eq.result _ _ _ _ c.eq.ensures c.as_slice.ensures c.if-eq.true c.what_ends.ensures

pub returns-then-eq-2 : goal.returns-then-eq-2
returns-then-eq-2 c =
    word_later c.args.word.now c.as_slice.result.now _ c.eq.result _ _ _ _ c.eq.ensures c.as_slice.ensures c.if-eq.false
    (word_first c.args.word.now c.as_slice-2.result.now _ c.eq-2.result _ _ _ _ c.eq-2.ensures c.as_slice-2.ensures c.if-eq-2.true c.what_ends-then-eq-2.ensures)
