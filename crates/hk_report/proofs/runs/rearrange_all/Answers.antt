use Rattle.std.proofs.Common.{ap, rules, subst}
use Rattle.hk_report.specs.Reachable.{IsKept}
use Rattle.hk_report.proofs.Ordered.{ordered_one}
use Rattle.hk_report.proofs.runs.rearrange_all.Goals as goal
use Rattle.hk_report.proofs.runs.rearrange_all.Goals.{in-Some, in_default}

pub loop-index-preserved : goal.loop-index-preserved
loop-index-preserved c = elim c.match-get_mut.branch [
  | in-Some w ↦
      ordered_one c.args.firsts.now c.args.histories.now.items c.loop-index.histories.items c.match-get_mut.histories.items c.loop-index.index w.in-Some.history.now w.rearrange.new.history
      c.loop-index.invariant (search rules) w.in-Some.ensures.item.1 (subst (λ b. IsKept b w.in-Some.history.now w.rearrange.new.history) w.moment_at.ensures w.rearrange.ensures.kept) w.rearrange.ensures.ordered (ap (λ v. v.items) w.histories-is)
  | in_default w ↦ absurd (search rules)
]
