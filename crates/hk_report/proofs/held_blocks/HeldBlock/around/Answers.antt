use Rattle.std.proofs.Common.{ℕ, Option, arith, subst}
use Rattle.hk_report.specs.Reachable.{moment_at, IsByThen}
use Rattle.hk_report.proofs.HeldBlockLemmas.{within_more}
use Rattle.hk_report.proofs.held_blocks.HeldBlock.around.Goals as goal

pub loop-stretch-preserved : goal.loop-stretch-preserved
loop-stretch-preserved c =
    let least = c.min.ensures in
    within_more (moment_at c.args.lasts.now) c.loop-stretch.block (record { from = c.min.result; last = c.sooner.result }) c.args.held.now c.loop-stretch.stretch-index
    c.stretch-item.result c.loop-stretch.invariant c.loop-stretch-test.true c.stretch-item.is (omega (arith, least)) (omega (arith, least)) c.sooner.ensures.0
    (subst (λ (o : Option ℕ). IsByThen c.sooner.result o) c.moment_at.ensures c.sooner.ensures.1)
