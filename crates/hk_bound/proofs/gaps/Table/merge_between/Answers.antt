use Rattle.std.proofs.Common.{◌+◌}
use Rattle.hk_bound.specs.Rules.{MergeRule}
use Rattle.hk_bound.specs.Merges.{MergesFrom}
use Rattle.hk_bound.proofs.FindsLemmas.{finds_then, finds_more}
use Rattle.hk_bound.proofs.Merges.{merges_more}
use Rattle.hk_bound.proofs.gaps.Table.merge_between.Goals as goal

pub loop-place-preserved : goal.loop-place-preserved
loop-place-preserved c =
    let w = c.args.self.now.world.now in
    let forms = c.args.self.now.forms.now in
    let rows = c.args.self.now.rows.now in
    let before = MergesFrom w forms rows c.args.process c.args.name c.args.by c.args.start c.loop-place.place in
    let here = MergeRule w forms rows c.args.process c.args.name c.args.by c.loop-place.place in
    finds_more w forms rows (before × here) (MergesFrom w forms rows c.args.process c.args.name c.args.by c.args.start (c.loop-place.place + 1))
    c.args.gaps.now.items c.merge_unless_idle.new.gaps.items
    (λ h. merges_more w forms rows c.args.process c.args.name c.args.by c.args.start c.loop-place.place h.0 h.1)
    (finds_then w forms rows before here c.args.gaps.now.items c.loop-place.gaps.items c.merge_unless_idle.new.gaps.items
    c.loop-place.invariant (c.in_ok-merge_unless_idle.ensures {u = tt}))
