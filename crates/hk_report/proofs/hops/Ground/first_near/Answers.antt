use Rattle.std.proofs.Common.{sym, ◌∙◌}
use Rattle.hk_report.specs.Histories.{history_of}
use Rattle.hk_report.specs.Hops.{is_made, latest_end, next_latest}
use Rattle.hk_report.proofs.NearObjects.{near_done, one_more, same_one}
use Rattle.hk_report.proofs.hops.Ground.first_near.Goals as goal
use Rattle.hk_report.proofs.hops.Ground.first_near.Goals.{then-is_other, else-is_other}

pub loop-held-preserved : goal.loop-held-preserved
loop-held-preserved c =
    let s = c.args.self.now in
    let made = is_made s.families.now s.begun s.histories.now in
    let level = next_latest made s.histories.now (latest_end c.args.end c.args.before) in
    let spans = (history_of s.histories.now c.args.from.now.name).spans in
    elim c.if-is_other.branch [
      | then-is_other w ↦
          one_more made c.args.from.now spans level c.holders_of-held-items.result.now c.loop-held.held-index c.held-item.result c.loop-held.last c.if-is_other.last
          c.loop-held.first c.if-is_other.first _ c.loop-held-test.true c.held-item.is c.loop-held.invariant (sym c.is_other.ensures ∙ w.if-is_other.true) w.last-is
          (w.first-is ∙ w.first_held-first.ensures)
      | else-is_other w ↦
          same_one made c.args.from.now spans level c.holders_of-held-items.result.now c.loop-held.held-index c.held-item.result c.loop-held.last c.if-is_other.last
          c.loop-held.first c.if-is_other.first _ c.loop-held-test.true c.held-item.is c.loop-held.invariant (sym c.is_other.ensures ∙ w.if-is_other.false) w.last-is w.first-is
    ]

pub returns : goal.returns
returns c =
    let s = c.args.self.now in
    near_done (is_made s.families.now s.begun s.histories.now) c.args.from.now s.histories.now s.runs.now s.holders.now c.args.end c.args.from.now.name c.args.before s.cut s.held
    s.ordered c.holders_of-held-items.result.now c.loop-held.held-index c.loop-held.first c.loop-held.last c.holders_of-held-items.ensures c.loop-held-test.false c.loop-held.invariant
