use Rattle.std.proofs.Common.{arith, sym, refl, ◌∙◌}
use Rattle.std.proofs.lemmas.List.{length-drop}
use Rattle.hk_audit.proofs.RecordSplits.{record_here, line_passed, ends_at, ends_nowhere}
use Rattle.hk_audit.proofs.scripts.script_length.Goals as goal

pub returns-then-is_record-clause-cut : goal.returns-then-is_record-clause-cut
returns-then-is_record-clause-cut c =
    let here = record_here c.args.bytes.now c.loop-start.start c.first_of-len.result (omega arith) c.first_of-len.ensures.place (sym c.is_record.ensures ∙ c.if-is_record.true) in
    (ends_at c.args.bytes.now c.loop-start.start (omega (arith, here, c.loop-start.invariant.rest))).0

pub returns-then-is_record-clause-lines : goal.returns-then-is_record-clause-lines
returns-then-is_record-clause-lines c =
    let here = record_here c.args.bytes.now c.loop-start.start c.first_of-len.result (omega arith) c.first_of-len.ensures.place (sym c.is_record.ensures ∙ c.if-is_record.true) in
    (ends_at c.args.bytes.now c.loop-start.start (omega (arith, here, c.loop-start.invariant.rest))).1

pub loop-start-preserved : goal.loop-start-preserved
loop-start-preserved c = record {
  low = let size = length-drop c.loop-start.start c.args.bytes.now in omega (arith, c.first_of-len.ensures.within);
  rest =
      line_passed c.args.bytes.now c.loop-start.start c.first_of-len.result _ (omega arith) c.first_of-len.ensures.place c.first_of-len.ensures.within
      (sym c.is_record.ensures ∙ c.if-is_record.false) c.loop-start.invariant.rest;
}

pub returns-clause-cut : goal.returns-clause-cut
returns-clause-cut c = (ends_nowhere c.args.bytes.now _ refl (omega (arith, c.loop-start.invariant.rest))).0
