-- One entry more.
use Rattle.hk_model.specs.Keeping.{entry_names}
use Rattle.hk_plain.proofs.CountLemmas.{more_come}
use Rattle.hk_plain.proofs.counts.Counts.hold_entries.Goals as goal

pub loop-entry-preserved : goal.loop-entry-preserved
loop-entry-preserved c =
    more_come entry_names c.args.entries.now c.loop-entry.entry-index c.entry-item.result c.entry-item.result c.args.self.now c.loop-entry.self c.hold_entry.new.self
    c.loop-entry-test.true c.entry-item.is c.loop-entry.invariant c.hold_entry.ensures
