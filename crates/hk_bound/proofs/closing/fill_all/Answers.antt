use Rattle.std.proofs.Common.{length, refl, arith}
use Rattle.std.proofs.lemmas.Option.{slice_get_read}
use Rattle.hk_bound.proofs.Filling.{filled_start, filled_more}
use Rattle.hk_bound.proofs.closing.fill_all.Goals as goal

pub loop-gap-init : goal.loop-gap-init
loop-gap-init c = filled_start c.args.world.now c.args.forms.now c.args.rows.now c.args.grown.now.items c.requires.filling

pub fill-requires : goal.fill-requires
fill-requires c =
    let g = c.requires.gaps c.loop-gap.gap-index c.gap-item.result (slice_get_read c.args.gaps.now (length c.args.gaps.now) c.loop-gap.gap-index c.gap-item.result
    refl c.loop-gap-test.true c.gap-item.is) in
    let a = g.process in
    let b = c.loop-gap.invariant.all.filling.are.count in
    omega (arith, a, b)

pub loop-gap-preserved : goal.loop-gap-preserved
loop-gap-preserved c =
    filled_more c.args.world.now c.args.forms.now c.args.rows.now c.loop-gap.rows c.fill.new.rows c.args.grown.now.items c.loop-gap.grown.items c.fill.new.grown.items
    c.loop-gap.gap-index c.gap-item.result c.loop-gap.invariant
    (c.requires.gaps c.loop-gap.gap-index c.gap-item.result (slice_get_read c.args.gaps.now (length c.args.gaps.now) c.loop-gap.gap-index c.gap-item.result refl
    c.loop-gap-test.true c.gap-item.is))
    (c.in_ok-fill.ensures {u = tt})

pub returns-clause-more : goal.returns-clause-more
returns-clause-more c h = let end = c.loop-gap-test.false in c.loop-gap.invariant.more (omega (arith, end, h))
