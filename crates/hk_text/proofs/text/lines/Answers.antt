use Rattle.std.proofs.Common.{◌≡◌, arith, map, ◌+◌, eqb, length, sym, ap, ◌∙◌, Ok}
use Rattle.std.specs.List.{flat_map, slice_range}
use Rattle.hk_format.specs.Texts.{text_line}
use Rattle.hk_text.specs.Views.{seen, line_seen, line_pieces}
use Rattle.hk_text.proofs.Turns.{line_pushed, line_skipped, line_count}
use Rattle.hk_text.proofs.Cleans.{read_from, bad_lines}
use Rattle.hk_text.proofs.Spans.{lie_before, lines_lie}
use Rattle.hk_text.proofs.text.lines.Goals as goal
use Rattle.hk_text.proofs.text.lines.Goals.{then-not-is_empty+in_ok-from_slice+in_ok-push, else-not-is_empty}

pub returns-in-Err-clause-refused : goal.returns-in-Err-clause-refused
returns-in-Err-clause-refused c line cause h =
    bad_lines c.args.bytes.now c.loop-start.start c.loop-start.number c.in-Err.error (map (line_seen c.args.bytes.now) c.loop-start.lines) _ (omega arith)
    c.loop-start.invariant.rest c.in-Err.ensures.value line cause (cc (c.on_line.ensures, h))

pub overflow_add-number : goal.overflow_add-number
overflow_add-number c =
    let count = line_count c.args.bytes.now c.loop-start.start c.loop-start.number c.in-Ok.len _ (omega arith) c.in-Ok.ensures.line c.loop-start.invariant.few in
    omega (arith, count, c.requires)

-- the pieces of the line that was read
read : (c : goal.Joined-not-is_empty) → text_line (slice_range c.args.bytes.now c.loop-start.start (c.loop-start.start + c.in-Ok.len))
    ≡ Ok (map (seen c.args.bytes.now) c.cut_line.new.pieces.items)
read c = read_from c.args.bytes.now c.loop-start.start c.in-Ok.len _ (omega arith) c.in-Ok.ensures.line c.in-Ok.ensures.value

pub loop-start-preserved : goal.loop-start-preserved
loop-start-preserved c = record {
  low = omega (arith, c.in-Ok.ensures.within);
  few = line_count c.args.bytes.now c.loop-start.start c.loop-start.number c.in-Ok.len _ (omega arith) c.in-Ok.ensures.line c.loop-start.invariant.few;
  rest =
      let tested = sym (c.is_empty.ensures ∙ ap (λ (x : _). eqb (length x) 0) c.as_slice-cut.ensures.value) in
      elim c.if-not-is_empty.branch [
        | then-not-is_empty+in_ok-from_slice+in_ok-push w ↦
            let same : w.from_vec-pieces.result ≡ c.cut_line.new.pieces.items = cc (w.from_vec-pieces.ensures, w.in_ok-from_slice.ensures.items, c.as_slice-cut.ensures.value) in
            rw (w.lines-is, w.in_ok-push.ensures.ok, same)
            (line_pushed c.args.bytes.now c.loop-start.start c.loop-start.number c.in-Ok.len c.loop-start.lines c.cut_line.new.pieces.items _
            (omega arith) c.in-Ok.ensures.line (read c) (tested ∙ w.if-not-is_empty.true) c.loop-start.invariant.rest)
        | else-not-is_empty w ↦ rw w.lines-is (line_skipped c.args.bytes.now c.loop-start.start c.loop-start.number c.in-Ok.len c.loop-start.lines c.cut_line.new.pieces.items _
            (omega arith) c.in-Ok.ensures.line (read c) (tested ∙ w.if-not-is_empty.false) c.loop-start.invariant.rest)
      ];
  spans =
      elim c.if-not-is_empty.branch [
        | then-not-is_empty+in_ok-from_slice+in_ok-push w ↦
            let same : w.from_vec-pieces.result ≡ c.cut_line.new.pieces.items = cc (w.from_vec-pieces.ensures, w.in_ok-from_slice.ensures.items, c.as_slice-cut.ensures.value) in
            rw (w.lines-is, w.in_ok-push.ensures.ok, same)
            (lines_lie c.loop-start.lines _ c.loop-start.start (c.loop-start.start + c.in-Ok.len) _
            (lie_before _ _ _ (flat_map line_pieces c.loop-start.lines) c.loop-start.invariant.spans (omega arith)) c.in-Ok.ensures.spans
            (omega (arith, c.in-Ok.ensures.within)))
        | else-not-is_empty w ↦ rw w.lines-is (lie_before _ _ _ (flat_map line_pieces c.loop-start.lines) c.loop-start.invariant.spans (omega arith))
      ];
}
