use Rattle.hk_report.specs.Hops.{is_made}
use Rattle.hk_report.proofs.HeldIn.{alone_in, joined_more, near_found}
use Rattle.hk_report.proofs.hops.Ground.latest_near.Goals as goal

pub joined_over-all-requires : goal.joined_over-all-requires
joined_over-all-requires c =
    let s = c.args.self.now in (
      c.args.end,
      alone_in s.histories.now s.runs.now s.cut s.holders.now s.held c.args.end c.args.name c.held_in-held-items.result.now c.loop-held.held-index c.held-item.result
          c.held_in-held-items.ensures c.loop-held-test.true c.held-item.is,
    )

pub loop-held-preserved : goal.loop-held-preserved
loop-held-preserved c =
    joined_more c.args.self.now.histories.now c.ends_before-latest.result c.is_made-made.result c.loop-held.all c.joined_over-all.result c.held_in-held-items.result.now
    c.loop-held.held-index c.held-item.result _ c.loop-held-test.true c.held-item.is c.joined_over-all.ensures c.loop-held.invariant

pub returns : goal.returns
returns c =
    let s = c.args.self.now in
    near_found (is_made s.families.now s.begun s.histories.now) s.histories.now s.runs.now s.holders.now c.args.end c.args.name c.args.before s.cut s.held c.ends_before-latest.result
    c.loop-held.all c.is_made-made.result c.held_in-held-items.result.now c.loop-held.held-index c.ends_before-latest.ensures c.is_made-made.ensures c.held_in-held-items.ensures
    c.loop-held-test.false c.loop-held.invariant
