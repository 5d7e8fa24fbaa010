-- One entry more.
use Rattle.hk_model.specs.Keeping.{entry_names}
use Rattle.hk_plain.proofs.CountLemmas.{more_go}
use Rattle.hk_plain.proofs.counts.Counts.release_entries.Goals as goal

pub loop-entry-preserved : goal.loop-entry-preserved
loop-entry-preserved c =
    more_go entry_names c.args.entries.now c.loop-entry.entry-index c.entry-item.result c.entry-item.result c.args.self.now c.loop-entry.self c.release_entry.new.self
    c.loop-entry-test.true c.entry-item.is c.loop-entry.invariant c.release_entry.ensures
