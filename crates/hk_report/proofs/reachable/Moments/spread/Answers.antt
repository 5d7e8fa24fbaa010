use Rattle.std.proofs.Common.{refl}
use Rattle.hk_report.proofs.MomentLemmas.{underway_next}
use Rattle.hk_report.proofs.reachable.Moments.spread.Goals as goal

pub loop-preserved : goal.loop-preserved
loop-preserved c = (
  underway_next c.args.side c.args.histories.now c.loop.self _ c.go_on.new.self c.in-Some.field-0.0 refl c.in-Some.ensures.permutation c.in_ok-go_on.ensures.earlier
      c.in_ok-go_on.ensures.told c.loop.invariant.0,
  λ name bound h. c.in_ok-go_on.ensures.earlier.earlier name bound (c.loop.invariant.1 name bound h),
)
