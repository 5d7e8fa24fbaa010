use Rattle.std.proofs.Common.{length, refl}
use Rattle.std.proofs.lemmas.Option.{slice_get_read}
use Rattle.hk_bound.proofs.Copies.{opening_none, opening_more, opening_all}
use Rattle.hk_bound.proofs.gaps.Table.opened_columns.Goals as goal

pub loop-entry-init : goal.loop-entry-init
loop-entry-init c =
    opening_none c.args.self.now.world.now c.args.self.now.forms.now c.args.name c.entries_of-entry-items.result.now c.new-columns.result.items c.new-columns.ensures.items

pub loop-entry-preserved : goal.loop-entry-preserved
loop-entry-preserved c =
    let entries = c.entries_of-entry-items.result.now in
    opening_more c.args.self.now.world.now c.args.self.now.forms.now c.args.name entries c.loop-entry.entry-index c.entry-item.result c.env_column.result
    c.loop-entry.columns.items c.add.new.numbers.items c.entries_of-entry-items.ensures
    (slice_get_read entries (length entries) c.loop-entry.entry-index c.entry-item.result refl c.loop-entry-test.true c.entry-item.is)
    c.env_column.ensures (c.in_ok-add.ensures {u = tt}) c.loop-entry.invariant

pub returns : goal.returns
returns c asked =
    opening_all c.args.self.now.world.now c.args.self.now.forms.now c.args.name c.entries_of-entry-items.result.now c.loop-entry.entry-index
    c.loop-entry.columns.items c.entries_of-entry-items.ensures c.loop-entry-test.false c.loop-entry.invariant
