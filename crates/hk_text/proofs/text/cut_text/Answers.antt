use Rattle.std.proofs.Common.{◌≡◌, ◌+◌, ◌≤◌, ◌∙◌, arith, refl, sym}
use Rattle.hk_text.proofs.Ends.{left_length, text_end, end_here, end_behind, end_last, end_on, all_read, line_none, line_some, line_bad}
use Rattle.hk_text.proofs.Turns.{front_none}
use Rattle.hk_text.proofs.Spans.{lie_both, lie_before}
use Rattle.hk_text.proofs.text.cut_text.Goals as goal
use Rattle.hk_text.proofs.text.cut_text.Goals.{then-len-gt0+in-Ok+in_ok-push-in-Ok, else-len-gt0, then-len-rest-via-then-len-rest, then-len-rest-via-else-len-rest+then-not-is_blank}

pub loop-at-init : goal.loop-at-init
loop-at-init c = record {
  high = omega arith;
  low = c.requires.inside;
  end = refl;
  rest = rw c.clear.ensures.items (front_none _);
  spans = rw c.clear.ensures.items (omega arith);
}

pub returns-then-end-start-gt-LINE_BYTES-clause-end : goal.returns-then-end-start-gt-LINE_BYTES-clause-end
returns-then-end-start-gt-LINE_BYTES-clause-end c =
    c.refused_at.ensures.end ∙ end_behind c.args.source.now c.loop-at.at c.first_token-token.result.len c.first_token-token.ensures.place ∙ c.loop-at.invariant.end

pub returns-then-end-start-gt-LINE_BYTES-clause-spans : goal.returns-then-end-start-gt-LINE_BYTES-clause-spans
returns-then-end-start-gt-LINE_BYTES-clause-spans c = lie_before _ _ _ c.loop-at.pieces.items c.loop-at.invariant.spans (omega (arith, c.refused_at.ensures.end))

-- the line ends behind the bad piece
found : (c : goal.After-refused_at-in-Err) → c.refused_at-in-Err.result.end ≡ text_end c.args.source.now c.args.start
found c =
    c.refused_at-in-Err.ensures.end ∙ end_behind c.args.source.now c.loop-at.at c.first_token-token.result.len c.first_token-token.ensures.place ∙ c.loop-at.invariant.end

pub returns-in-Err-clause-end : goal.returns-in-Err-clause-end
returns-in-Err-clause-end c = found c

pub returns-in-Err-clause-value : goal.returns-in-Err-clause-value
returns-in-Err-clause-value c =
    λ short. rw (c.refused_at-in-Err.ensures.refused, found c) (line_bad c.args.source.now c.loop-at.at c.first_token-token.result.len _ c.in-Err.cause _ c.loop-at.invariant.low
    c.first_token-token.ensures.place c.if-len-gt0.true c.in-Err.ensures c.loop-at.invariant.rest)

pub returns-in-Err-clause-spans : goal.returns-in-Err-clause-spans
returns-in-Err-clause-spans c = lie_before _ _ _ c.loop-at.pieces.items c.loop-at.invariant.spans (omega (arith, c.refused_at-in-Err.ensures.end))

-- the line ends with the token
ends : (c : goal.Joined-then-len-rest) → c.loop-at.at + c.first_token-token.result.len ≡ text_end c.args.source.now c.args.start
ends c =
    let source = c.args.source.now in
    elim c.then-len-rest.branch [
      | then-len-rest-via-then-len-rest w ↦ end_here source c.loop-at.at c.first_token-token.result.len c.first_token-token.ensures.place
          (λ more. absurd (omega (arith, more, w.if-len-rest.true))) ∙ c.loop-at.invariant.end
      | then-len-rest-via-else-len-rest+then-not-is_blank w ↦ end_here source c.loop-at.at c.first_token-token.result.len c.first_token-token.ensures.place
          (λ more. sym w.is_blank.ensures ∙ w.if-not-is_blank.true) ∙ c.loop-at.invariant.end
    ]

pub returns-then-len-rest-clause-end : goal.returns-then-len-rest-clause-end
returns-then-len-rest-clause-end c = ends c

pub returns-then-len-rest-clause-value : goal.returns-then-len-rest-clause-value
returns-then-len-rest-clause-value c =
    let source = c.args.source.now in
    let at = c.loop-at.at in
    let len = c.first_token-token.result.len in
    let past : text_end c.args.source.now c.loop-at.at ≤ c.loop-at.at + (c.first_token-token.result.len + 1) = omega (arith, ends c, c.loop-at.invariant.end) in
    λ short. rw (ends c) (all_read source (at + (len + 1)) (text_end source at) _ _ past (elim c.if-len-gt0.branch [
      | then-len-gt0+in-Ok+in_ok-push-in-Ok w ↦ rw (w.pieces-is, w.in_ok-push-in-Ok.ensures.items)
          (line_some source at _ len c.loop-at.pieces.items w.in-Ok.kind _ c.loop-at.invariant.low refl c.first_token-token.ensures.place w.if-len-gt0.true w.in-Ok.ensures
          c.loop-at.invariant.rest)
      | else-len-gt0 w ↦ rw w.pieces-is (line_none source at _ len _ _ c.loop-at.invariant.low refl c.first_token-token.ensures.place (omega arith) c.loop-at.invariant.rest)
    ]))

pub returns-then-len-rest-clause-spans : goal.returns-then-len-rest-clause-spans
returns-then-len-rest-clause-spans c = elim c.if-len-gt0.branch [
  | then-len-gt0+in-Ok+in_ok-push-in-Ok w ↦ rw (w.pieces-is, w.in_ok-push-in-Ok.ensures.items)
      (lie_both _ _ _ c.loop-at.pieces.items _ c.loop-at.invariant.spans (omega arith, omega arith, omega arith))
  | else-len-gt0 w ↦ rw w.pieces-is (lie_before _ _ _ c.loop-at.pieces.items c.loop-at.invariant.spans (omega arith))
]

pub loop-at-preserved : goal.loop-at-preserved
loop-at-preserved c =
    let source = c.args.source.now in
    let at = c.loop-at.at in
    let len = c.first_token-token.result.len in
    let same = end_on c.args.source.now c.loop-at.at c.first_token-token.result.len c.first_token-token.ensures.place
    (omega (arith, c.first_token-token.ensures.within, c.if-len-rest.false)) (sym c.is_blank.ensures ∙ c.if-not-is_blank.false) in
    let size = left_length c.args.source.now c.loop-at.at in
    record {
      high = omega arith;
      low = omega (arith, c.first_token-token.ensures.within, c.if-len-rest.false);
      end = same ∙ c.loop-at.invariant.end;
      rest = elim c.if-len-gt0.branch [
        | then-len-gt0+in-Ok+in_ok-push-in-Ok w ↦ rw (w.pieces-is, w.in_ok-push-in-Ok.ensures.items)
            (line_some source at _ len c.loop-at.pieces.items w.in-Ok.kind _ c.loop-at.invariant.low (sym same) c.first_token-token.ensures.place w.if-len-gt0.true w.in-Ok.ensures
            c.loop-at.invariant.rest)
        | else-len-gt0 w ↦ rw w.pieces-is (line_none source at _ len _ _ c.loop-at.invariant.low (sym same) c.first_token-token.ensures.place (omega arith) c.loop-at.invariant.rest)
      ];
      spans = elim c.if-len-gt0.branch [
        | then-len-gt0+in-Ok+in_ok-push-in-Ok w ↦ rw (w.pieces-is, w.in_ok-push-in-Ok.ensures.items)
            (lie_both _ _ _ c.loop-at.pieces.items _ c.loop-at.invariant.spans (omega arith, omega arith, omega arith))
        | else-len-gt0 w ↦ rw w.pieces-is (lie_before _ _ _ c.loop-at.pieces.items c.loop-at.invariant.spans (omega arith))
      ];
    }

-- the line ends with the source
last : (c : goal.After-loop-at) → c.loop-at.at ≡ text_end c.args.source.now c.args.start
last c = end_last c.args.source.now c.loop-at.at c.loop-at.invariant.low c.loop-at-test.false ∙ c.loop-at.invariant.end

pub returns-clause-end : goal.returns-clause-end
returns-clause-end c = last c

pub returns-clause-value : goal.returns-clause-value
returns-clause-value c =
    λ short. rw (last c) (all_read c.args.source.now c.loop-at.at _ _ _ (omega (arith, last c, c.loop-at.invariant.end)) c.loop-at.invariant.rest)
