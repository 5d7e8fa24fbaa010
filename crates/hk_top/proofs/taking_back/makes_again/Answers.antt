use Rattle.std.proofs.Common.{length, refl, sym, ◌∙◌}
use Rattle.std.proofs.lemmas.Bool.{true≢false}
use Rattle.std.proofs.lemmas.Option.{slice_get_read}
use Rattle.hk_top.proofs.TakenBack.{other_made}
use Rattle.hk_top.proofs.taking_back.makes_again.Goals as goal

pub returns-then-not-branch-clause-legal : goal.returns-then-not-branch-clause-legal
returns-then-not-branch-clause-legal c = (
  λ e. absurd (cc),
  λ legal. absurd (other_made c.args.past.now.world c.args.lines.now c.args.end c.loop-line.line-index c.line-item.result c.loop-line.past
      (slice_get_read c.args.lines.now (length c.args.lines.now) c.loop-line.line-index c.line-item.result refl c.loop-line-test.true c.line-item.is)
      c.loop-line.invariant (λ same. true≢false (sym (c.in_ok-makes.ensures.same.1 same) ∙ c.if-not-branch.true)) legal),
)
