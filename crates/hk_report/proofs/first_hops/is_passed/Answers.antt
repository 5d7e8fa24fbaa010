use Rattle.std.proofs.Common.{sym, ◌∙◌}
use Rattle.hk_report.specs.Hops.{latest_at}
use Rattle.hk_report.proofs.BlockLemmas.{ended_block, late_block, later_block}
use Rattle.hk_report.proofs.first_hops.is_passed.Goals as goal
use Rattle.hk_report.proofs.first_hops.is_passed.Goals.{then-block-from, else-block-from}

pub returns-then-is_late : goal.returns-then-is_late
returns-then-is_late c passed made histories spans around =
    let level = latest_at made histories c.args.level.now in
    elim c.if-block-from.branch [
      | then-block-from w ↦ ended_block made level c.args.from.now c.args.block.now c.args.first.now spans around w.if-block-from.true
      | else-block-from w ↦
          late_block made level c.args.from.now c.args.block.now c.args.first.now spans (w.is_late.ensures (sym w.value-is ∙ c.if-is_late.true) made histories) around
    ]

pub returns-else-is_late : goal.returns-else-is_late
returns-else-is_late c passed made histories spans around =
    later_block made (latest_at made histories c.args.level.now) c.args.from.now c.args.block.now c.args.first.now spans around (c.stays_before.ensures passed)
