use Rattle.std.proofs.Common.{arith}
use Rattle.hk_table.proofs.Bases.{begun, one_more_read}
use Rattle.hk_table.proofs.stacks.space_of.Goals as goal

pub loop-i-init : goal.loop-i-init
loop-i-init c = begun c.empty-space.result c.empty-space.ensures

pub loop-i-preserved : goal.loop-i-preserved
loop-i-preserved c =
    one_more_read c.args.entries.now c.loop-i.i c.index-entries-i.result c.loop-i.space c.set.new.self (omega (arith, c.loop-i-test.true)) c.requires c.index-entries-i.is
    c.loop-i.invariant c.set.ensures
