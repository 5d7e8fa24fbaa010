use Rattle.hk_report.proofs.Unchanged.{unchanged}
use Rattle.hk_report.proofs.histories.relist.Goals as goal

pub returns-then-stays_listed : goal.returns-then-stays_listed
returns-then-stays_listed c =
    unchanged c.args.moment c.args.maker c.args.entries.now c.args.history.now c.if-is_none.ensures
    (rw (← c.as_slice.ensures.value) (c.stays_listed.ensures c.if-stays_listed.true))
